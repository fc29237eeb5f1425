-- The walk through a tree: how its spots come node by node, and that the root's term is right exactly where all are well placed.
use Rattle.std.proofs.Common.{◌≡◌, ℕ, zero, suc, ◌-◌, ◌<◌, ◌≤◌, Option, Some, None, List, [], ◌∷◌, length, get_or, refl, sym, ap, subst, arith}
use Rattle.std.specs.Prelude.{All, slice_get}
use Rattle.std.specs.List.{flat_map}
use Rattle.std.proofs.lemmas.List.Elements.{All-nil, All-cons, All-head, All-tail, All-weaker}
use Rattle.fx_term.specs.declared.node.Node.{Node}
use Rattle.fx_term.specs.Scope.{IsInScope}
use Rattle.fx_term.specs.Term.{Term}
use Rattle.fx_term.specs.Meaning.{assemble, read, term_of, root_term}
use Rattle.fx_term.specs.Tree.{ChildrenComeFirst}
use Rattle.fx_term.specs.Turns.{HasFewTurns}
use Rattle.fx_term.specs.Need.{need, most_need, NeedsFew}
use Rattle.fx_term.specs.Signature.{parts}
use Rattle.fx_term.specs.QueuesNamed.{NamesQueuesBelow}
use Rattle.fx_term.specs.declared.code.signature.Part.{Part}
use Rattle.fx_term.specs.Walk.{Spot, spot_of, spots_below, walk, spots_from, spots}
use Rattle.fx_term.specs.WellPlaced.{IsWellPlaced}
use Rattle.fx_term.proofs.AllParts.{all_map, all_from_map, all_flat_map, all_from_flat_map, flat_map_same}
use Rattle.fx_term.proofs.NeedLaws.{few_need}
use Rattle.fx_term.proofs.NodeTerms.{term_of_node}
use Rattle.fx_term.proofs.PartLaws.{in_scope_node, right_slots, right_kinds, scope_of_parts, few_turns_node, right_turns, turns_of_parts}
use Rattle.fx_term.proofs.PartLaws.{needs_few_node, needs_of_parts, names_below_node, right_queue, names_of_parts}

-- the parts of the node at a spot
abbrev pub parts_at : List Node → Spot → List Spot
parts_at nodes s = spots_below (slice_get nodes s.id) s.kinds s.turns

module _ (nodes : List Node) (tree : ChildrenComeFirst nodes) where
  pub parts_before : (s : Spot) → All (λ (part : Spot). part.id < s.id) (parts_at nodes s)
  parts_before s = by_node (slice_get nodes s.id) refl
    where
      by_node : (o : Option Node) → slice_get nodes s.id ≡ o → All (λ (part : Spot). part.id < s.id) (spots_below o s.kinds s.turns)
      by_node None e = All-nil (λ (part : Spot). part.id < s.id)
      by_node (Some n) e =
          all_map (λ (part : Spot). part.id < s.id) (spot_of s.kinds s.turns) (parts n)
          (all_from_map (λ c. c < s.id) (λ (p : Part). p.node.0) (parts n) (tree s.id n e))

  -- a walk is the same at each depth above the node's number
  walk_same : (k m : ℕ) (s : Spot) → s.id < k → s.id < m → walk k nodes s ≡ walk m nodes s
  unfolding walk
  walk_same zero m s p q = absurd (omega arith)
  walk_same (suc k) zero s p q = absurd (omega arith)
  walk_same (suc k) (suc m) s p q =
      ap (λ (rest : List Spot). s ∷ rest) (flat_map_same (walk k nodes) (walk m nodes) (parts_at nodes s)
      (All-weaker (λ (part : Spot). part.id < s.id) (λ (part : Spot). walk k nodes part ≡ walk m nodes part)
      (λ part h. walk_same k m part (omega arith) (omega arith)) (parts_at nodes s) (parts_before s)))

  -- a node comes first, and then what stands below its parts
  pub spots_at : (s : Spot) → spots_from nodes s ≡ s ∷ flat_map (spots_from nodes) (parts_at nodes s)
  unfolding spots_from walk
  spots_at s =
      ap (λ (rest : List Spot). s ∷ rest) (flat_map_same (walk s.id nodes) (spots_from nodes) (parts_at nodes s)
      (All-weaker (λ (part : Spot). part.id < s.id) (λ (part : Spot). walk s.id nodes part ≡ spots_from nodes part)
      (λ part h. walk_same s.id (suc part.id) part h (omega arith)) (parts_at nodes s) (parts_before s)))

  term_at : (id : ℕ) → term_of nodes id ≡ assemble (slice_get nodes id) (term_of nodes)
  unfolding term_of read
  term_at id = by_node (slice_get nodes id) refl
    where
      by_node : (o : Option Node) → slice_get nodes id ≡ o → term_of nodes id ≡ assemble o (term_of nodes)
      by_node None e = rw e refl
      by_node (Some n) e = term_of_node nodes tree id n e

-- what a code's term must be where it stands
pub record IsTermRight (queues : ℕ) (nodes : List Node) (s : Spot) : Type 0 where
  pub scope : IsInScope s.kinds (term_of nodes s.id)
  pub turns : HasFewTurns s.turns (term_of nodes s.id)
  pub needs : NeedsFew (term_of nodes s.id)
  pub named : NamesQueuesBelow queues (term_of nodes s.id)

module _ (queues : ℕ) (nodes : List Node) (tree : ChildrenComeFirst nodes) where
  -- where a node is well placed and the terms of its parts are right, its term is
  right_up : (s : Spot) → IsWellPlaced queues nodes s → All (IsTermRight queues nodes) (parts_at nodes s) → IsTermRight queues nodes s
  right_up s placed below = record {
    scope = subst (IsInScope s.kinds) (sym (term_at nodes tree s.id))
        (in_scope_node s.kinds s.turns (term_of nodes) (slice_get nodes s.id) placed.numbers.slots placed.kinds (λ i d h. (below i d h).scope));
    turns = subst (HasFewTurns s.turns) (sym (term_at nodes tree s.id))
        (few_turns_node s.kinds s.turns (term_of nodes) (slice_get nodes s.id) placed.limits.turns (λ i d h. (below i d h).turns));
    needs = subst NeedsFew (sym (term_at nodes tree s.id)) (needs_few_node s.kinds s.turns (term_of nodes) (slice_get nodes s.id)
        (subst (λ (t : Term). need t ≤ most_need) (term_at nodes tree s.id) placed.limits.need) (λ i d h. (below i d h).needs));
    named = subst (NamesQueuesBelow queues) (sym (term_at nodes tree s.id))
        (names_below_node s.kinds s.turns (term_of nodes) queues (slice_get nodes s.id) placed.numbers.queue (λ i d h. (below i d h).named));
  }

  -- the term as that of its node
  scope_of_node : (s : Spot) → IsTermRight queues nodes s → IsInScope s.kinds (assemble (slice_get nodes s.id) (term_of nodes))
  scope_of_node s right = subst (IsInScope s.kinds) (term_at nodes tree s.id) right.scope

  turns_of_node : (s : Spot) → IsTermRight queues nodes s → HasFewTurns s.turns (assemble (slice_get nodes s.id) (term_of nodes))
  turns_of_node s right = subst (HasFewTurns s.turns) (term_at nodes tree s.id) right.turns

  names_of_node : (s : Spot) → IsTermRight queues nodes s → NamesQueuesBelow queues (assemble (slice_get nodes s.id) (term_of nodes))
  names_of_node s right = subst (NamesQueuesBelow queues) (term_at nodes tree s.id) right.named

  -- where a node's term is right, the node is well placed
  right_here : (s : Spot) → IsTermRight queues nodes s → IsWellPlaced queues nodes s
  right_here s right = record {
    numbers = record {
      slots = right_slots s.kinds s.turns (term_of nodes) (slice_get nodes s.id) (scope_of_node s right);
      queue = right_queue s.kinds s.turns (term_of nodes) queues (slice_get nodes s.id) (names_of_node s right);
    };
    kinds = right_kinds s.kinds s.turns (term_of nodes) (slice_get nodes s.id) (scope_of_node s right);
    limits = record {
      turns = right_turns s.kinds s.turns (term_of nodes) (slice_get nodes s.id) (turns_of_node s right);
      need = few_need (term_of nodes s.id) right.needs;
    };
  }

  -- and the terms of its parts are right
  right_down : (s : Spot) → IsTermRight queues nodes s → All (IsTermRight queues nodes) (parts_at nodes s)
  right_down s right i d h = record {
    scope = scope_of_parts s.kinds s.turns (term_of nodes) (slice_get nodes s.id) (scope_of_node s right) i d h;
    turns = turns_of_parts s.kinds s.turns (term_of nodes) (slice_get nodes s.id) (turns_of_node s right) i d h;
    needs = needs_of_parts s.kinds s.turns (term_of nodes) (slice_get nodes s.id) (subst NeedsFew (term_at nodes tree s.id) right.needs) i d h;
    named = names_of_parts s.kinds s.turns (term_of nodes) queues (slice_get nodes s.id) (names_of_node s right) i d h;
  }

  -- where all is well placed, the term is right
  right_from : (k : ℕ) (s : Spot) → s.id < k → All (IsWellPlaced queues nodes) (spots_from nodes s) → IsTermRight queues nodes s
  right_from zero s lt placed = absurd (omega arith)
  right_from (suc k) s lt placed =
      let ps = parts_at nodes s in
      let all : All (IsWellPlaced queues nodes) (s ∷ flat_map (spots_from nodes) ps) =
      subst (All (IsWellPlaced queues nodes)) (spots_at nodes tree s) placed in
      let here = All-head (IsWellPlaced queues nodes) s (flat_map (spots_from nodes) ps) all in
      let below = all_from_flat_map (IsWellPlaced queues nodes) (spots_from nodes) ps
      (All-tail (IsWellPlaced queues nodes) s (flat_map (spots_from nodes) ps) all) in
      let near = parts_before nodes tree s in
      right_up s here (λ i d h. let before : (get_or ps i d).id < s.id = near i d h in right_from k (get_or ps i d) (omega arith) (below i d h))

  -- where a term is right, all is well placed
  placed_from : (k : ℕ) (s : Spot) → s.id < k → IsTermRight queues nodes s → All (IsWellPlaced queues nodes) (spots_from nodes s)
  placed_from zero s lt right = absurd (omega arith)
  placed_from (suc k) s lt right =
      let ps = parts_at nodes s in
      let below = right_down s right in
      let near = parts_before nodes tree s in
      subst (All (IsWellPlaced queues nodes)) (sym (spots_at nodes tree s))
      (All-cons (IsWellPlaced queues nodes) s (flat_map (spots_from nodes) ps) (right_here s right)
      (all_flat_map (IsWellPlaced queues nodes) (spots_from nodes) ps
      (λ i d h. let before : (get_or ps i d).id < s.id = near i d h in placed_from k (get_or ps i d) (omega arith) (below i d h))))

  abbrev pub root : Spot
  root = record { id = length nodes - 1; kinds = []; turns = 1 }

  pub root_right : All (IsWellPlaced queues nodes) (spots nodes) → IsTermRight queues nodes root
  root_right placed = right_from (suc (length nodes - 1)) root (omega arith) placed

  pub root_placed : IsInScope [] (root_term nodes) → HasFewTurns 1 (root_term nodes) → NeedsFew (root_term nodes) → NamesQueuesBelow queues (root_term nodes)
      → All (IsWellPlaced queues nodes) (spots nodes)
  root_placed scope turns needs named =
      placed_from (suc (length nodes - 1)) root (omega arith) (record { scope = scope; turns = turns; needs = needs; named = named })
