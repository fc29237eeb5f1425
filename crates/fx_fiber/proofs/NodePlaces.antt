-- Where a machine stands, from the leaf below it or what stands inside all contexts.
use Rattle.std.proofs.Common.{◌≡◌, ℕ, false, Option, Some, None, List, [], length, refl, sym, ◌∙◌, ap, subst}
use Rattle.std.specs.Prelude.{MatchOption, slice_get}
use Rattle.fx_term.specs.declared.node.NodeId.{NodeId}
use Rattle.fx_term.specs.declared.node.Node.{Node}
use Rattle.fx_term.specs.declared.node.Node.TheVariants as node
use Rattle.fx_term.specs.declared.done.Done.{Done}
use Rattle.fx_term.specs.declared.outcome.Outcome.{Outcome}
use Rattle.fx_term.specs.Term.{Term, Finished}
use Rattle.fx_term.specs.Fill.{fill}
use Rattle.fx_term.specs.Meaning.{assemble, term_of}
use Rattle.fx_term.specs.Term as term
use Rattle.fx_mask.specs.Closing.{is_none_closed}
use Rattle.fx_model.specs.Path.{leaf}
use Rattle.fx_model.specs.Step.{leaf_at}
use Rattle.fx_fiber.specs.declared.machine.focus.Focus.TheVariants.{Eval, Return, Turn, Await, Unwinding, Ended}
use Rattle.fx_fiber.specs.declared.machine.unwound.Unwound.{Unwound}
use Rattle.fx_fiber.specs.declared.machine.Machine.{Machine}
use Rattle.fx_fiber.specs.declared.machine.leaf_below.LeafBelow.{LeafBelow}
use Rattle.fx_fiber.specs.Machine.{filled, loop_at, inner, within, running, unwinding, progress_of}
use Rattle.fx_fiber.specs.Sound.{IsLoopIn, IsFocusIn, closed_outside, AreClosedBy, IsSoundMachine}
use Rattle.fx_fiber.specs.Leaves.{IsLeafNode}
use Rattle.fx_fiber.specs.LeafBelow.{IsLeafBelow}
use Rattle.fx_fiber.specs.NodePlaces.{is_open_at, IsPlaceOf, at_leaf, at_turn, HasNoNode}
use Rattle.fx_fiber.specs.Places.{IsSame, IsEvaluating, is_open_machine}
use Rattle.fx_fiber.proofs.Contexts.{leaf_within, closed_within, open_within, cleanup_is_closed}
use Rattle.fx_fiber.proofs.Leaves.{inner_at, leaf_here}
use Rattle.fx_fiber.proofs.Nodes.{leaf_of_node, loop_term, progress_is}
use Rattle.fx_fiber.proofs.Rules.{IsLeafTerm, result_term}

-- the place of a node with these numbers for its names is one with some
pub with_some_numbers : (nodes : List Node) (numbers : List ℕ) (leaf : Option Term) (node : Option NodeId)
    → MatchOption node (HasNoNode leaf) (IsPlaceOf nodes numbers leaf)
    → MatchOption node (HasNoNode leaf) (λ id. (others : List ℕ) × IsPlaceOf nodes others leaf id)
with_some_numbers nodes numbers leaf None none = none
with_some_numbers nodes numbers leaf (Some id) place = (numbers, place)

module _ (nodes : List Node) (s : Machine) (sound : IsSoundMachine nodes s) where
  -- the place of a leaf is open where nothing is closed inside the contexts
  open_inside : (t : Term) → IsLeafTerm s.masks.regions t
      → is_open_at (running nodes s.registers s.cleanups (within nodes s.registers s.frames s.masks.regions t)) ≡ is_open_machine s
  open_inside t leaf = by_left s.cleanups sound.closed
    where
      by_left : (left : Option Unwound) → AreClosedBy (closed_outside left) s.frames s.masks.regions
          → is_open_at (running nodes s.registers left (within nodes s.registers s.frames s.masks.regions t)) ≡ is_open_machine s
      by_left None closed = open_within nodes s.registers s.frames s.masks.regions t closed leaf.stays
      by_left (Some left) closed = sym (cleanup_is_closed s.frames s.masks.regions left closed)

-- one that has not entered its last contexts, by the same machine inside them
module _ (nodes : List Node) (s t : Machine) (id : NodeId) (n : Node) (same : IsSame nodes s t) (here : t.focus ≡ Eval id)
    (node : slice_get nodes id.0 ≡ Some n) (leaf : IsLeafNode (Some n)) where
  at : IsEvaluating nodes t id n
  at = record { sound = same.sound; focus = here; node = node }

  opened_inside : is_open_at (progress_of nodes s) ≡ is_open_machine t
  opened_inside =
      let u = fill (length t.registers) t.registers (assemble (Some n) (term_of nodes)) in
      let is_leaf : IsLeafTerm t.masks.regions u = leaf_of_node t.masks.regions (length t.registers) t.registers (term_of nodes) n leaf in
      ap is_open_at (sym same.progress)
      ∙ ap is_open_at (progress_is nodes t.registers t.frames t.masks t.cleanups t.focus id n here node same.sound u refl)
      ∙ open_inside nodes t same.sound u is_leaf

  place_inside : leaf_at (progress_of nodes s) ≡ Some (filled nodes t.registers id)
  place_inside =
      ap leaf_at (sym same.progress) ∙ leaf_here nodes t id n at leaf
      ∙ ap Some (sym (inner_at nodes t id n at) ∙ ap (inner nodes t.registers) here)

module _ (nodes : List Node) (s : Machine) (leaf : LeafBelow) (below : IsLeafBelow nodes s leaf) where
  pub leaf_opened : leaf.is_open ≡ is_open_at (progress_of nodes s)
  leaf_opened =
      sym (opened_inside nodes s below.down.inside leaf.id leaf.node below.down.same below.down.focus below.node below.is_leaf ∙ below.down.opened_is)

  pub leaf_place : IsPlaceOf nodes s.registers (leaf_at (progress_of nodes s)) leaf.id
  leaf_place =
      at_leaf below.node (place_inside nodes s below.down.inside leaf.id leaf.node below.down.same below.down.focus below.node below.is_leaf
      ∙ ap (λ (ns : List ℕ). Some (filled nodes ns leaf.id)) below.down.registers)

module _ (nodes : List Node) (s : Machine) (sound : IsSoundMachine nodes s) where
  pub result_opened : (v : Done) → s.focus ≡ Return v → is_open_machine s ≡ is_open_at (progress_of nodes s)
  result_opened v e = rw e (sym (open_inside nodes s sound (Finished v) (result_term s.masks.regions v)))

  pub turn_opened : (id : NodeId) (turn : ℕ) → s.focus ≡ Turn id turn → is_open_machine s ≡ is_open_at (progress_of nodes s)
  turn_opened id turn e =
      rw e (sym (open_inside nodes s sound (loop_at nodes s.registers id turn) (loop_term nodes s.registers s.masks.regions (slice_get nodes id.0) turn)))

  pub await_opened : (f : ℕ) → s.focus ≡ Await f → false ≡ is_open_at (progress_of nodes s)
  await_opened f e = rw e (by_left s.cleanups sound.closed)
    where
      by_left : (left : Option Unwound) → AreClosedBy (closed_outside left) s.frames s.masks.regions
          → false ≡ is_open_at (running nodes s.registers left (within nodes s.registers s.frames s.masks.regions (term.Await f)))
      by_left None closed = sym (ap is_none_closed (closed_within nodes s.registers [] s.frames s.masks.regions (term.Await f) closed))
      by_left (Some left) closed = refl

  pub unwinding_opened : s.focus ≡ Unwinding → false ≡ is_open_at (progress_of nodes s)
  unwinding_opened e = rw e (by_left s.cleanups)
    where
      by_left : (left : Option Unwound) → false ≡ is_open_at (unwinding nodes s.registers left)
      by_left None = refl
      by_left (Some left) = refl

  pub end_opened : (o : Outcome) → s.focus ≡ Ended o → false ≡ is_open_at (progress_of nodes s)
  end_opened o e = rw e refl

module _ (nodes : List Node) (s : Machine) where
  -- the leaf of what stands inside all contexts
  inside_leaf_at : (left : Option Unwound) (u : Term)
      → leaf_at (running nodes s.registers left (within nodes s.registers s.frames s.masks.regions u)) ≡ Some (leaf u)
  inside_leaf_at None u = ap Some (leaf_within nodes s.registers s.frames s.masks.regions u)
  inside_leaf_at (Some left) u = ap Some (leaf_within nodes s.registers s.frames s.masks.regions u)

  -- whose turn comes next is a `for`
  is_loop : (bound : ℕ) (found : Option Node) → IsLoopIn nodes bound found → (i : ℕ) × (count : ℕ) × (a : NodeId) × (found ≡ Some (node.For i count a))
  is_loop bound (Some (node.For i count a)) is = (i, count, a, refl)
  is_loop bound _ is = absurd is

  pub turn_place : IsSoundMachine nodes s → (id : NodeId) (turn : ℕ) → s.focus ≡ Turn id turn
      → IsPlaceOf nodes s.registers (leaf_at (progress_of nodes s)) id
  turn_place sound id turn e =
      let loop = is_loop sound.bound (slice_get nodes id.0) (subst (IsFocusIn nodes sound.bound) e sound.focus_in) in
      at_turn {a = loop.2} turn loop.3 (rw e (inside_leaf_at s.cleanups (loop_at nodes s.registers id turn))
      ∙ ap Some (loop_term nodes s.registers s.masks.regions (slice_get nodes id.0) turn).is_leaf)

  pub result_has_none : (v : Done) → s.focus ≡ Return v → HasNoNode (leaf_at (progress_of nodes s))
  result_has_none v e = rw e (rw (inside_leaf_at s.cleanups (Finished v)) tt)

  pub await_has_none : (f : ℕ) → s.focus ≡ Await f → HasNoNode (leaf_at (progress_of nodes s))
  await_has_none f e = rw e (rw (inside_leaf_at s.cleanups (term.Await f)) tt)

  pub unwinding_has_none : s.focus ≡ Unwinding → HasNoNode (leaf_at (progress_of nodes s))
  unwinding_has_none e = rw e (by_left s.cleanups)
    where
      by_left : (left : Option Unwound) → HasNoNode (leaf_at (unwinding nodes s.registers left))
      by_left None = tt
      by_left (Some left) = tt

  pub end_has_none : (o : Outcome) → s.focus ≡ Ended o → HasNoNode (leaf_at (progress_of nodes s))
  end_has_none o e = rw e tt
