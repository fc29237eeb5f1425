-- Where a fiber stands: at which node, and whether that place is open.
use Rattle.std.specs.Prelude.{◌≡◌, ℕ, Bool, false, Option, Some, None, List, slice_get}
use Rattle.fx_term.specs.declared.node.NodeId.{NodeId}
use Rattle.fx_term.specs.declared.node.Node.{Node}
use Rattle.fx_term.specs.declared.node.Node.TheVariants as node
use Rattle.fx_term.specs.Term.{Term, Finished, Await}
use Rattle.fx_model.specs.Path.{is_open}
use Rattle.fx_model.specs.Step.{Progress, Runs}
use Rattle.fx_fiber.specs.Machine.{filled, loop_at}

-- the place of what a fiber runs is open; a clean-up is sealed, and between clean-ups and at its end there is no place
abbrev pub is_open_at : Progress → Bool
is_open_at (Runs t) = is_open t
is_open_at _ = false

-- the leaf is the term of this node of the code, with the numbers in place of its names; or the node is a `for`, and the leaf its loop before some turn
pub data IsPlaceOf (nodes : List Node) (numbers : List ℕ) (leaf : Option Term) (id : NodeId) : Type 0 where
  at_leaf : {n : Node} → slice_get nodes id.0 ≡ Some n → leaf ≡ Some (filled nodes numbers id) → IsPlaceOf nodes numbers leaf id
  at_turn : {i n : ℕ} {a : NodeId} (turn : ℕ) → slice_get nodes id.0 ≡ Some (node.For i n a) → leaf ≡ Some (loop_at nodes numbers id turn)
      → IsPlaceOf nodes numbers leaf id

-- the leaf is of no node: a result, or the wait for a fiber that was canceled; or there is none
abbrev pub HasNoNode : Option Term → Type 0
HasNoNode (Some (Finished v)) = Unit {0}
HasNoNode (Some (Await f)) = Unit {0}
HasNoNode (Some t) = ⊥
HasNoNode None = Unit {0}
