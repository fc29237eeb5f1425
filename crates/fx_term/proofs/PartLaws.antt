-- A node's term is in scope, and has few turns, exactly where the node is well placed and the terms of its parts are so where they stand.
use Rattle.std.proofs.Common.{◌≡◌, ℕ, ◌≤◌, Option, Some, None, List, length, get_or, refl, sym, ◌∙◌, ap, subst, arith}
use Rattle.std.specs.Prelude.{All, slice_get}
use Rattle.std.proofs.lemmas.List.Elements.{All-nil, All-from_recursion, recursion_from_All}
use Rattle.std.proofs.lemmas.Option.{slice_get_past}
use Rattle.fx_term.specs.declared.name_kind.NameKind.{NameKind}
use Rattle.fx_term.specs.declared.name_kind.NameKind.TheVariants as kind
use Rattle.fx_term.specs.declared.node.Node.{Node}
use Rattle.fx_term.specs.declared.code.signature.Part.{Part}
use Rattle.fx_term.specs.Signature.{uses, queue_of, parts}
use Rattle.fx_term.specs.QueuesNamed.{NamesQueuesBelow}
use Rattle.fx_term.specs.Term.{Term}
use Rattle.fx_term.specs.Scope.{IsBinderAt, IsNew, with_named, bound_under, HasLevels, IsScoped, IsInScope}
use Rattle.fx_term.specs.Meaning.{assemble}
use Rattle.fx_term.specs.Need.{need, most_need, NeedsFew}
use Rattle.fx_term.specs.Turns.{HasFewTurns}
use Rattle.fx_term.specs.Walk.{Spot, kinds_inside, kinds_under, kinds_of_part, spot_of, spots_below}
use Rattle.fx_term.specs.WellPlaced.{IsUseBelow, IsUseOf, IsNextBinder, IsQueueBelow, HasRightSlots, HasRightKinds, HasRightTurns}
use Rattle.fx_term.proofs.AllParts.{all_map, all_from_map}
use Rattle.fx_term.proofs.ScopeLaws.{scope_under, length_suc}
use Rattle.fx_term.proofs.SeenLaws.{length_inside, scope_of_inside}
use Rattle.fx_term.proofs.SignatureLaws.{scope_inside, HasPartLevels, node_levels, levels_of_node, IsPartScoped, node_scoped, scoped_of_node}
use Rattle.fx_term.proofs.SignatureLaws.{HasPartFewTurns, node_turns, turns_of_node, NeedsFewInside, node_needs_few, few_of_node}
use Rattle.fx_term.proofs.SignatureLaws.{NamesBelowInside, node_names_below, names_of_node}

-- what is in scope under a binder that may have no name
module _ (x : Option ℕ) (k : NameKind) (kinds : List NameKind) where
  -- one more name is in scope there, if it has one
  length_under : length (kinds_under x k kinds) ≡ bound_under (length kinds) x
  length_under = by_name x
    where
      by_name : (y : Option ℕ) → length (kinds_under y k kinds) ≡ bound_under (length kinds) y
      by_name None = refl
      by_name (Some y) = length_suc kinds k

  module _ (next : IsBinderAt (length kinds) x) where
    scope_of_under : (λ (y : ℕ). slice_get (kinds_under x k kinds) y) ≡ with_named x k (λ y. slice_get kinds y)
    scope_of_under = by_name x next
      where
        by_name : (y : Option ℕ) → IsBinderAt (length kinds) y
            → (λ (z : ℕ). slice_get (kinds_under y k kinds) z) ≡ with_named y k (λ z. slice_get kinds z)
        by_name None at = refl
        by_name (Some y) at = scope_under kinds k y at

    new_there : IsNew (λ y. slice_get kinds y) x
    new_there = by_name x next
      where
        by_name : (y : Option ℕ) → IsBinderAt (length kinds) y → IsNew (λ z. slice_get kinds z) y
        by_name None at = tt
        by_name (Some y) at = slice_get_past kinds y (omega arith)

-- what is in scope under two binders, the second inside of the first
module _ (x : Option ℕ) (k : NameKind) (y : Option ℕ) (kinds : List NameKind) (t : Term)
    (first : IsBinderAt (length kinds) x) (then : IsBinderAt (bound_under (length kinds) x) y) where
  abbrev outer : List NameKind
  outer = kinds_under x k kinds

  abbrev both : List NameKind
  both = kinds_under y kind.Value outer

  abbrev scope_of_outer : ℕ → Option NameKind
  scope_of_outer = with_named x k (λ z. slice_get kinds z)

  then_there : IsBinderAt (length outer) y
  then_there = subst (λ n. IsBinderAt n y) (sym (length_under x k kinds)) then

  length_both : length both ≡ bound_under (bound_under (length kinds) x) y
  length_both = length_under y kind.Value outer ∙ ap (λ n. bound_under n y) (length_under x k kinds)

  scope_of_both : (λ (z : ℕ). slice_get both z) ≡ with_named y kind.Value scope_of_outer
  scope_of_both = scope_of_under y kind.Value outer then_there ∙ ap (with_named y kind.Value) (scope_of_under x k kinds first)

  levels_there : IsInScope both t → HasLevels (bound_under (bound_under (length kinds) x) y) t
  levels_there h = subst (λ n. HasLevels n t) length_both h.levels

  scoped_there : IsInScope both t → IsNew (λ z. slice_get kinds z) x × IsNew scope_of_outer y × IsScoped (with_named y kind.Value scope_of_outer) t
  scoped_there h = (
    new_there x k kinds first,
    subst (λ (s : ℕ → Option NameKind). IsNew s y) (scope_of_under x k kinds first) (new_there y kind.Value outer then_there),
    subst (λ (s : ℕ → Option NameKind). IsScoped s t) scope_of_both h.scoped,
  )

  in_scope_there : HasLevels (bound_under (bound_under (length kinds) x) y) t → IsScoped (with_named y kind.Value scope_of_outer) t → IsInScope both t
  in_scope_there levels scoped = record {
    levels = subst (λ n. HasLevels n t) (sym length_both) levels;
    scoped = subst (λ (s : ℕ → Option NameKind). IsScoped s t) (sym scope_of_both) scoped;
  }

-- what is in scope in a part
module _ (kinds : List NameKind) (p : Part) (t : Term) (next : IsNextBinder (length kinds) p) where
  abbrev inside : List NameKind
  inside = kinds_inside p.elsewhere kinds

  abbrev scope_there : ℕ → Option NameKind
  scope_there = scope_inside p.elsewhere (λ y. slice_get kinds y)

  next_inside : IsNextBinder (length inside) p
  next_inside = subst (λ n. IsNextBinder n p) (sym (length_inside p.elsewhere kinds)) next

  part_levels : IsInScope (kinds_of_part p kinds) t → HasLevels (bound_under (bound_under (length kinds) p.binder) p.inner) t
  part_levels h =
      subst (λ n. HasLevels (bound_under (bound_under n p.binder) p.inner) t) (length_inside p.elsewhere kinds)
      (levels_there p.binder p.kind p.inner inside t next_inside.0 next_inside.1 h)

  part_scoped : IsInScope (kinds_of_part p kinds) t → IsNew scope_there p.binder × IsNew (with_named p.binder p.kind scope_there) p.inner
      × IsScoped (with_named p.inner kind.Value (with_named p.binder p.kind scope_there)) t
  part_scoped h =
      subst (λ (s : ℕ → Option NameKind).
      IsNew s p.binder × IsNew (with_named p.binder p.kind s) p.inner × IsScoped (with_named p.inner kind.Value (with_named p.binder p.kind s)) t)
      (scope_of_inside p.elsewhere kinds) (scoped_there p.binder p.kind p.inner inside t next_inside.0 next_inside.1 h)

  part_in_scope : HasLevels (bound_under (bound_under (length kinds) p.binder) p.inner) t
      → IsScoped (with_named p.inner kind.Value (with_named p.binder p.kind scope_there)) t → IsInScope (kinds_of_part p kinds) t
  part_in_scope levels scoped =
      in_scope_there p.binder p.kind p.inner inside t next_inside.0 next_inside.1
      (subst (λ n. HasLevels (bound_under (bound_under n p.binder) p.inner) t) (sym (length_inside p.elsewhere kinds)) levels)
      (subst (λ (s : ℕ → Option NameKind). IsScoped (with_named p.inner kind.Value (with_named p.binder p.kind s)) t)
      (sym (scope_of_inside p.elsewhere kinds)) scoped)

-- the part's term is in scope where it stands
abbrev pub IsPartInScope : (ℕ → Term) → Spot → Type 0
IsPartInScope term part = IsInScope part.kinds (term part.id)

-- the part's term has few turns where the part is run as often as it is
abbrev pub HasSpotFewTurns : (ℕ → Term) → Spot → Type 0
HasSpotFewTurns term part = HasFewTurns part.turns (term part.id)

-- the part's term can use few fiber numbers
abbrev pub NeedsFewThere : (ℕ → Term) → Spot → Type 0
NeedsFewThere term part = NeedsFew (term part.id)

module _ (kinds : List NameKind) (turns : ℕ) (term : ℕ → Term) where
  abbrev scope : ℕ → Option NameKind
  scope x = slice_get kinds x

  abbrev HasLevelsThere : Part → Type 0
  HasLevelsThere = HasPartLevels term (length kinds)

  abbrev IsScopedThere : Part → Type 0
  IsScopedThere = IsPartScoped term scope

  -- a node's term is in scope where its slots and kinds are right and the terms of its parts are in scope
  pub in_scope_node : (o : Option Node) → HasRightSlots (length kinds) o → HasRightKinds kinds o → All (IsPartInScope term) (spots_below o kinds turns)
      → IsInScope kinds (assemble o term)
  in_scope_node None right of_kind h = record { levels = tt; scoped = tt }
  in_scope_node (Some n) right of_kind h =
      let below = all_from_map (IsPartInScope term) (spot_of kinds turns) (parts n) h in
      let levels : All HasLevelsThere (parts n) =
      λ i d lt. (right.binders i d lt, part_levels kinds (get_or (parts n) i d) _ (right.binders i d lt) (below i d lt)) in
      let scoped : All IsScopedThere (parts n) = λ i d lt. part_scoped kinds (get_or (parts n) i d) _ (right.binders i d lt) (below i d lt) in
      record {
        levels = node_levels term (length kinds) n (recursion_from_All (IsUseBelow (length kinds)) (uses n) right.uses)
            (recursion_from_All HasLevelsThere (parts n) levels);
        scoped = node_scoped term scope n (recursion_from_All (IsUseOf scope) (uses n) of_kind)
            (recursion_from_All IsScopedThere (parts n) scoped);
      }

  -- where a node's term is in scope, the node's slots are right
  pub right_slots : (o : Option Node) → IsInScope kinds (assemble o term) → HasRightSlots (length kinds) o
  right_slots None h = record { uses = All-nil _; binders = All-nil _ }
  right_slots (Some n) h =
      let each = levels_of_node term (length kinds) n h.levels in
      record {
        binders = λ i d lt. (All-from_recursion HasLevelsThere (parts n) each.1 i d lt).0;
        uses = All-from_recursion (IsUseBelow (length kinds)) (uses n) each.0;
      }

  -- and its names are of the right kinds
  pub right_kinds : (o : Option Node) → IsInScope kinds (assemble o term) → HasRightKinds kinds o
  right_kinds None h = All-nil _
  right_kinds (Some n) h = All-from_recursion (IsUseOf scope) (uses n) (scoped_of_node term scope n h.scoped).0

  -- where a node's term is in scope, those of its parts are
  pub scope_of_parts : (o : Option Node) → IsInScope kinds (assemble o term) → All (IsPartInScope term) (spots_below o kinds turns)
  scope_of_parts None h = All-nil (IsPartInScope term)
  scope_of_parts (Some n) h =
      let levels = All-from_recursion HasLevelsThere (parts n) (levels_of_node term (length kinds) n h.levels).1 in
      let scoped = All-from_recursion IsScopedThere (parts n) (scoped_of_node term scope n h.scoped).1 in
      all_map (IsPartInScope term) (spot_of kinds turns) (parts n)
      (λ i d lt. part_in_scope kinds (get_or (parts n) i d) _ (levels i d lt).0 (levels i d lt).1 (scoped i d lt).2)

  -- a node's term has few turns where its counts are right and the terms of its parts have few
  pub few_turns_node : (o : Option Node) → HasRightTurns turns o → All (HasSpotFewTurns term) (spots_below o kinds turns) → HasFewTurns turns (assemble o term)
  few_turns_node None right h = tt
  few_turns_node (Some n) right h =
      let below = all_from_map (HasSpotFewTurns term) (spot_of kinds turns) (parts n) h in
      node_turns term turns n (recursion_from_All (HasPartFewTurns term turns) (parts n) (λ i d lt. (right i d lt, below i d lt)))

  pub right_turns : (o : Option Node) → HasFewTurns turns (assemble o term) → HasRightTurns turns o
  right_turns None h = All-nil _
  right_turns (Some n) h = λ i d lt. (All-from_recursion (HasPartFewTurns term turns) (parts n) (turns_of_node term turns n h) i d lt).0

  pub turns_of_parts : (o : Option Node) → HasFewTurns turns (assemble o term) → All (HasSpotFewTurns term) (spots_below o kinds turns)
  turns_of_parts None h = All-nil (HasSpotFewTurns term)
  turns_of_parts (Some n) h =
      let each = All-from_recursion (HasPartFewTurns term turns) (parts n) (turns_of_node term turns n h) in
      all_map (HasSpotFewTurns term) (spot_of kinds turns) (parts n) (λ i d lt. (each i d lt).1)

  -- a node's term can use few fiber numbers where itself and those of its parts can
  pub needs_few_node : (o : Option Node) → need (assemble o term) ≤ most_need → All (NeedsFewThere term) (spots_below o kinds turns)
      → NeedsFew (assemble o term)
  needs_few_node None few h = tt
  needs_few_node (Some n) few h =
      let below = all_from_map (NeedsFewThere term) (spot_of kinds turns) (parts n) h in
      node_needs_few term n few (recursion_from_All (NeedsFewInside term) (parts n) below)

  pub needs_of_parts : (o : Option Node) → NeedsFew (assemble o term) → All (NeedsFewThere term) (spots_below o kinds turns)
  needs_of_parts None h = All-nil (NeedsFewThere term)
  needs_of_parts (Some n) h =
      all_map (NeedsFewThere term) (spot_of kinds turns) (parts n) (All-from_recursion (NeedsFewInside term) (parts n) (few_of_node term n h))

  -- a node's term names queues below a number where itself and the terms of its parts do
  module _ (queues : ℕ) where
    abbrev NamesBelowThere : Spot → Type 0
    NamesBelowThere part = NamesQueuesBelow queues (term part.id)

    pub names_below_node : (o : Option Node) → IsQueueBelow queues (queue_of o) → All NamesBelowThere (spots_below o kinds turns)
        → NamesQueuesBelow queues (assemble o term)
    names_below_node None right h = tt
    names_below_node (Some n) right h =
        let below = all_from_map NamesBelowThere (spot_of kinds turns) (parts n) h in
        node_names_below term queues n right (recursion_from_All (NamesBelowInside term queues) (parts n) below)

    pub right_queue : (o : Option Node) → NamesQueuesBelow queues (assemble o term) → IsQueueBelow queues (queue_of o)
    right_queue None h = tt
    right_queue (Some n) h = (names_of_node term queues n h).0

    pub names_of_parts : (o : Option Node) → NamesQueuesBelow queues (assemble o term) → All NamesBelowThere (spots_below o kinds turns)
    names_of_parts None h = All-nil NamesBelowThere
    names_of_parts (Some n) h =
        all_map NamesBelowThere (spot_of kinds turns) (parts n)
        (All-from_recursion (NamesBelowInside term queues) (parts n) (names_of_node term queues n h).1)
