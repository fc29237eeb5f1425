-- What a walk has looked at, and what is still to come.
use Rattle.std.proofs.Common.{◌≡◌, ◌≢◌, ℕ, ◌-◌, ◌^◌, ◌<◌, ◌≤◌, Option, None, Some, List, [], ◌∷◌, ◌++◌, length}
use Rattle.std.proofs.Common.{get_or, map, reverse, refl, sym, ◌∙◌, ap, subst, arith, append_assoc}
use Rattle.std.specs.Prelude.{All, slice_get, slice_index}
use Rattle.std.specs.List.{flat_map}
use Rattle.std.proofs.lemmas.List.{append-nil, map_push, reverse-append, reverse-reverse}
use Rattle.std.proofs.lemmas.List.Concat.{flat_map-append}
use Rattle.std.proofs.lemmas.List.Elements.{All-nil, All-cons, All-push, All-append}
use Rattle.std.proofs.lemmas.Option.{slice_get-get_or}
use Rattle.fx_term.specs.declared.name_kind.NameKind.{NameKind}
use Rattle.fx_term.specs.declared.node.Node.{Node}
use Rattle.fx_term.specs.declared.code.walk.Pending.{Pending}
use Rattle.fx_term.specs.declared.code.CodeFault.TheVariants as fault
use Rattle.fx_term.specs.Tree.{IsOneTree}
use Rattle.fx_term.specs.Walk.{Spot, spots_below, spots_from, spots}
use Rattle.fx_term.specs.WellPlaced.{HasRightNumbers, HasRightKinds, IsWithinLimits, IsWellPlaced}
use Rattle.fx_term.specs.Pending.{path_to, seen_past, spot_at, AreNested, ArePushed}
use Rattle.fx_term.specs.Need.{need}
use Rattle.fx_term.specs.NodeNeed.{AreNeeds}
use Rattle.fx_term.specs.Meaning.{term_of}
use Rattle.fx_term.specs.Code.{IsFault, slot, kind, limit}
use Rattle.fx_term.proofs.AllParts.{all_front, all_middle, all_reverse}
use Rattle.fx_term.proofs.PendingLaws.{path_reaches, nested_last, nested_more, spots_kept}
use Rattle.fx_term.proofs.SeenLaws.{length_seen}
use Rattle.fx_term.proofs.SpotLaws.{parts_before, spots_at}
use Rattle.fx_term.proofs.TreeLaws.{length_positive}

-- the spots at and below a stack of pending nodes, of which the last is looked at first
unfoldable pub spots_to_come : List Node → List NameKind → List Pending → List Spot
spots_to_come nodes path stack = flat_map (spots_from nodes) (reverse (map (spot_at path) stack))

-- the spot's node is there
abbrev pub IsNear : List Node → Spot → Type 0
IsNear nodes s = s.id < length nodes

-- the spots looked at are well placed, and those below the stack follow them
pub record IsWalked (queues : ℕ) (nodes : List Node) (path : List NameKind) (stack : List Pending) : Type 0 where
  pub before : List Spot
  pub split : spots nodes ≡ before ++ spots_to_come nodes path stack
  pub placed : All (IsWellPlaced queues nodes) before
  pub near : All (IsNear nodes) (map (spot_at path) stack)
  pub nested : AreNested 0 stack (length path)

-- where the walk begins
unfoldable pub root_pending : List Node → Pending
root_pending nodes = record { node = record { 0 = length nodes - 1 }; outer = 0; foreign = 0; own = None; inner = None; turns = 1 }

come_pop : (nodes : List Node) (path : List NameKind) (rest : List Pending) (p : Pending)
    → spots_to_come nodes path (rest ++ p ∷ []) ≡ spots_from nodes (spot_at path p) ++ spots_to_come nodes path rest
unfolding spots_to_come
come_pop nodes path rest p =
    ap (λ xs. flat_map (spots_from nodes) (reverse xs)) (map_push (spot_at path) rest p)
    ∙ ap (flat_map (spots_from nodes)) (reverse-append (map (spot_at path) rest) (spot_at path p ∷ []))

come_push : (nodes : List Node) (path : List NameKind) (rest new : List Pending) (ps : List Spot)
    → map (spot_at path) new ≡ map (spot_at path) rest ++ reverse ps
    → spots_to_come nodes path new ≡ flat_map (spots_from nodes) ps ++ spots_to_come nodes path rest
unfolding spots_to_come
come_push nodes path rest new ps e =
    ap (λ xs. flat_map (spots_from nodes) (reverse xs)) e
    ∙ ap (flat_map (spots_from nodes)) (reverse-append (map (spot_at path) rest) (reverse ps)
    ∙ ap (λ xs. xs ++ reverse (map (spot_at path) rest)) (reverse-reverse ps))
    ∙ flat_map-append (spots_from nodes) ps (reverse (map (spot_at path) rest))

come_nothing : (nodes : List Node) (path : List NameKind) → spots_to_come nodes path [] ≡ []
unfolding spots_to_come
come_nothing nodes path = refl

-- the spots to come are the same along another path to them
come_kept : (nodes : List Node) (path other : List NameKind) (rest : List Pending) → map (spot_at other) rest ≡ map (spot_at path) rest
    → spots_to_come nodes other rest ≡ spots_to_come nodes path rest
unfolding spots_to_come
come_kept nodes path other rest e = ap (λ xs. flat_map (spots_from nodes) (reverse xs)) e

-- at the start the root is to come
walked_root : (queues : ℕ) (nodes : List Node) → nodes ≢ [] → IsWalked queues nodes [] (root_pending nodes ∷ [])
unfolding root_pending
walked_root queues nodes some =
    let come = come_pop nodes [] [] (root_pending nodes) ∙ ap (λ xs. spots_from nodes (spot_at [] (root_pending nodes)) ++ xs) (come_nothing nodes [])
    ∙ append-nil (spots nodes) in
    let positive = length_positive nodes some in
    record {
      before = [];
      split = sym come;
      placed = All-nil (IsWellPlaced queues nodes);
      near = All-cons (IsNear nodes) (spot_at [] (root_pending nodes)) [] (omega arith) (All-nil (IsNear nodes));
      nested = (omega arith, omega arith, omega arith);
    }

pub walked_none : (queues : ℕ) (nodes : List Node) (path : List NameKind) (stack : List Pending) → nodes ≢ [] → path ≡ []
    → stack ≡ [] ++ root_pending nodes ∷ [] → IsWalked queues nodes path stack
walked_none queues nodes path stack some none e =
    subst (λ (xs : List NameKind). IsWalked queues nodes xs stack) (sym none) (subst (IsWalked queues nodes []) (sym e) (walked_root queues nodes some))

-- at the end all spots were looked at
pub walked_all : (queues : ℕ) (nodes : List Node) (path : List NameKind) (stack : List Pending) → IsWalked queues nodes path stack → stack ≡ []
    → All (IsWellPlaced queues nodes) (spots nodes)
walked_all queues nodes path stack walked e =
    let none = ap (spots_to_come nodes path) e ∙ come_nothing nodes path in
    let whole = walked.split ∙ ap (λ xs. walked.before ++ xs) none ∙ append-nil walked.before in
    subst (All (IsWellPlaced queues nodes)) (sym whole) walked.placed

-- one look, at the last pending node of the stack
module _ (queues : ℕ) (nodes : List Node) (tree : IsOneTree nodes) (path : List NameKind) (stack : List Pending) (walked : IsWalked queues nodes path stack)
    (rest : List Pending) (p : Pending) (popped : stack ≡ rest ++ p ∷ []) (d : Node) where
  spots_popped : All (IsNear nodes) (map (spot_at path) rest ++ spot_at path p ∷ [])
  spots_popped = subst (All (IsNear nodes)) (ap (map (spot_at path)) popped ∙ map_push (spot_at path) rest p) walked.near

  -- the pending node is there
  pub pending_near : p.node.0 < length nodes
  pending_near = all_middle (IsNear nodes) (map (spot_at path) rest) (spot_at path p) [] spots_popped

  node_there : slice_get nodes p.node.0 ≡ Some (get_or nodes p.node.0 d)
  node_there = slice_get-get_or nodes p.node.0 d pending_near

  nested_popped : AreNested 0 rest p.outer × (p.foreign ≤ p.outer) × p.outer ≤ length path
  nested_popped = nested_last 0 rest p (length path) (subst (λ xs. AreNested 0 xs (length path)) popped walked.nested)

  -- its path is entered
  module _ (here : List NameKind) (entered : here ≡ path_to path p) where
    abbrev node_here : Option Node
    node_here = Some (get_or nodes p.node.0 d)

    abbrev parts_here : List Spot
    parts_here = spots_below node_here (seen_past p.foreign here) p.turns

    pub foreign_near : p.foreign ≤ length here
    foreign_near =
        let nested = nested_popped in
        let reaches = path_reaches path p nested.2 in
        subst (λ xs. p.foreign ≤ length xs) (sym entered) (omega arith)

    come_next : spots_to_come nodes path stack ≡ spot_at path p ∷ (flat_map (spots_from nodes) parts_here ++ spots_to_come nodes path rest)
    come_next = ap (spots_to_come nodes path) popped ∙ come_pop nodes path rest p
        ∙ ap (λ xs. xs ++ spots_to_come nodes path rest) (spots_at nodes tree.forest.before (spot_at path p))
        ∙ ap (λ o. spot_at path p ∷ (flat_map (spots_from nodes) (spots_below o (seen_past p.foreign (path_to path p)) p.turns)
        ++ spots_to_come nodes path rest)) node_there
        ∙ ap (λ xs. spot_at path p ∷ (flat_map (spots_from nodes) (spots_below node_here (seen_past p.foreign xs) p.turns)
        ++ spots_to_come nodes path rest)) (sym entered)

    split_next : spots nodes ≡ walked.before ++ spot_at path p ∷ (flat_map (spots_from nodes) parts_here ++ spots_to_come nodes path rest)
    split_next = walked.split ∙ ap (λ xs. walked.before ++ xs) come_next

    -- what is known of the node, of the spot that is looked at
    right_there : (Right : List NameKind → Option Node → Type 0) → Right here node_here → Right (path_to path p) (slice_get nodes p.node.0)
    right_there Right h = subst (λ o. Right (path_to path p) o) (sym node_there) (subst (λ xs. Right xs node_here) entered h)

    right_here : (Right : List NameKind → Option Node → Type 0) → Right (path_to path p) (slice_get nodes p.node.0) → Right here node_here
    right_here Right h = subst (λ xs. Right xs node_here) (sym entered) (subst (λ o. Right (path_to path p) o) node_there h)

    abbrev HasNumbers : List NameKind → Option Node → Type 0
    HasNumbers kinds o = HasRightNumbers queues (length (seen_past p.foreign kinds)) o

    abbrev HasKinds : List NameKind → Option Node → Type 0
    HasKinds kinds o = HasRightKinds (seen_past p.foreign kinds) o

    abbrev here_needs : ℕ
    here_needs = need (term_of nodes p.node.0)

    abbrev IsWithin : List NameKind → Option Node → Type 0
    IsWithin kinds o = IsWithinLimits p.turns here_needs o

    -- the limits are tested with the need that was made for the node
    within_there : (needs : List ℕ) → AreNeeds nodes (length nodes) needs → IsWithinLimits p.turns (slice_index needs p.node.0) node_here
        → IsWithin (path_to path p) (slice_get nodes p.node.0)
    within_there needs are within =
        let made = are.need p.node.0 pending_near in let few = within.need in right_there IsWithin (record { turns = within.turns; need = omega arith })

    within_here : (needs : List ℕ) → AreNeeds nodes (length nodes) needs → IsWithin (path_to path p) (slice_get nodes p.node.0)
        → IsWithinLimits p.turns (slice_index needs p.node.0) node_here
    within_here needs are within =
        let here = right_here IsWithin within in
        let made = are.need p.node.0 pending_near in let few = here.need in record { turns = here.turns; need = omega arith }

    numbers_there : HasRightNumbers queues (length here) node_here → HasNumbers (path_to path p) (slice_get nodes p.node.0)
    numbers_there right = right_there HasNumbers (subst (λ n. HasRightNumbers queues n node_here) (sym (length_seen p.foreign here)) right)

    pub wrong_number : length nodes < 2 ^ 32 → (HasRightNumbers queues (length here) (Some (get_or nodes p.node.0 d)) → ⊥)
        → IsFault queues nodes (fault.Slot p.node)
    wrong_number fits wrong =
        slot walked.before (flat_map (spots_from nodes) parts_here ++ spots_to_come nodes path rest) (spot_at path p) fits tree split_next walked.placed
        (λ right. wrong (subst (λ n. HasRightNumbers queues n node_here) (length_seen p.foreign here) (right_here HasNumbers right)))

    pub wrong_kind : length nodes < 2 ^ 32 → HasRightNumbers queues (length here) (Some (get_or nodes p.node.0 d))
        → (HasRightKinds (seen_past p.foreign here) (Some (get_or nodes p.node.0 d)) → ⊥)
        → IsFault queues nodes (fault.Kind p.node)
    wrong_kind fits right wrong =
        kind walked.before (flat_map (spots_from nodes) parts_here ++ spots_to_come nodes path rest) (spot_at path p) fits tree split_next walked.placed
        (numbers_there right) (λ of_kind. wrong (right_here HasKinds of_kind))

    pub not_within : length nodes < 2 ^ 32 → HasRightNumbers queues (length here) (Some (get_or nodes p.node.0 d))
        → HasRightKinds (seen_past p.foreign here) (Some (get_or nodes p.node.0 d))
        → (needs : List ℕ) → AreNeeds nodes (length nodes) needs → (IsWithinLimits p.turns (slice_index needs p.node.0) (Some (get_or nodes p.node.0 d)) → ⊥)
        → IsFault queues nodes (fault.Limit p.node)
    not_within fits right of_kind needs are wrong =
        limit walked.before (flat_map (spots_from nodes) parts_here ++ spots_to_come nodes path rest) (spot_at path p) fits tree split_next walked.placed
        (numbers_there right) (right_there HasKinds of_kind) (λ within. wrong (within_here needs are within))

    -- its parts are pushed
    module _ (new : List Pending)
        (pushed : ArePushed here (spots_below (Some (get_or nodes p.node.0 d)) (seen_past p.foreign here) p.turns) rest new) where
      spots_rest : map (spot_at here) rest ≡ map (spot_at path) rest
      spots_rest = ap (λ xs. map (spot_at xs) rest) entered ∙ spots_kept path p 0 rest nested_popped.0 nested_popped.2

      come_then : spots_to_come nodes path stack ≡ spot_at path p ∷ spots_to_come nodes here new
      come_then = come_next ∙ ap (λ xs. spot_at path p ∷ xs)
          (ap (λ xs. flat_map (spots_from nodes) parts_here ++ xs) (sym (come_kept nodes path here rest spots_rest))
          ∙ sym (come_push nodes here rest new parts_here pushed.spots))

      pub fewer_to_come : length (spots_to_come nodes here new) < length (spots_to_come nodes path stack)
      fewer_to_come = let e = ap length come_then in omega arith

      near_parts : All (IsNear nodes) parts_here
      near_parts i s h =
          let AreBefore = λ (kinds : List NameKind) (o : Option Node).
          All (λ (part : Spot). part.id < p.node.0) (spots_below o (seen_past p.foreign kinds) p.turns) in
          let before : (get_or parts_here i s).id < p.node.0 = right_here AreBefore (parts_before nodes tree.forest.before (spot_at path p)) i s h in
          let near = pending_near in
          omega arith

      near_new : All (IsNear nodes) (map (spot_at here) rest ++ reverse parts_here)
      near_new =
          All-append (IsNear nodes) (map (spot_at here) rest) (reverse parts_here)
          (subst (All (IsNear nodes)) (sym spots_rest) (all_front (IsNear nodes) (map (spot_at path) rest) (spot_at path p ∷ []) spots_popped))
          (all_reverse (IsNear nodes) parts_here near_parts)

      nested_rest : AreNested 0 rest (length here)
      nested_rest =
          nested_more 0 rest p.outer (length here) nested_popped.0 (subst (λ xs. p.outer ≤ length xs) (sym entered) (path_reaches path p nested_popped.2))

      pub walked_more : HasRightNumbers queues (length here) (Some (get_or nodes p.node.0 d))
          → HasRightKinds (seen_past p.foreign here) (Some (get_or nodes p.node.0 d))
          → (needs : List ℕ) → AreNeeds nodes (length nodes) needs → IsWithinLimits p.turns (slice_index needs p.node.0) (Some (get_or nodes p.node.0 d))
          → IsWalked queues nodes here new
      walked_more right of_kind needs are within = record {
        before = walked.before ++ spot_at path p ∷ [];
        split = walked.split ∙ ap (λ xs. walked.before ++ xs) come_then ∙ sym (append_assoc walked.before (spot_at path p ∷ []) (spots_to_come nodes here new));
        placed =
            All-push (IsWellPlaced queues nodes) walked.before (spot_at path p) walked.placed
            (record { numbers = numbers_there right; kinds = right_there HasKinds of_kind; limits = within_there needs are within });
        near = subst (All (IsNear nodes)) (sym pushed.spots) near_new;
        nested = pushed.nested nested_rest;
      }
