-- The leaf of a machine that has not entered its last contexts, seen without entering them.
use Rattle.std.specs.Prelude.{◌≡◌, ℕ, Bool, false, Some, List, length, slice_get}
use Rattle.fx_term.specs.declared.node.NodeId.{NodeId}
use Rattle.fx_term.specs.declared.node.Node.{Node}
use Rattle.fx_term.specs.Term.{Term}
use Rattle.fx_term.specs.Fill.{fill}
use Rattle.fx_term.specs.Meaning.{assemble, term_of}
use Rattle.fx_frames.specs.declared.frame.Frame.{Frame}
use Rattle.fx_frames.specs.declared.frame.Frame.TheVariants as frame
use Rattle.fx_fiber.specs.Leaves.{IsLeafNode}
use Rattle.fx_fiber.specs.Places.{IsSame, is_open_machine}
use Rattle.fx_fiber.specs.declared.machine.Machine.{Machine}
use Rattle.fx_fiber.specs.declared.machine.focus.Focus.TheVariants.{Eval}
use Rattle.fx_fiber.specs.declared.machine.leaf_below.LeafBelow.{LeafBelow}

-- the machine once it has entered contexts down to this node, where the place is open or not
pub record IsDownTo (nodes : List Node) (s : Machine) (id : NodeId) (opened : Bool) : Type 0 where
  pub inside : Machine
  pub same : IsSame nodes s inside
  pub registers : inside.registers ≡ s.registers
  pub focus : inside.focus ≡ Eval id
  pub opened_is : is_open_machine inside ≡ opened

-- whether a place is open inside a context that is entered at a node, where that node's is open or not
abbrev pub is_open_inside : Frame → Bool → Bool
is_open_inside (frame.Acquire id) opened = false
is_open_inside (frame.AcquireCase id) opened = false
is_open_inside f opened = opened

-- the leaf that a machine comes to by entering contexts alone, and whether the place there is open
pub record IsLeafBelow (nodes : List Node) (s : Machine) (leaf : LeafBelow) : Type 0 where
  pub down : IsDownTo nodes s leaf.id leaf.is_open
  pub node : slice_get nodes leaf.id.0 ≡ Some leaf.node
  pub is_leaf : IsLeafNode (Some leaf.node)

-- the term of a node with the numbers in place of its names
abbrev pub term_at : List Node → List ℕ → Node → Term
term_at nodes numbers n = fill (length numbers) numbers (assemble (Some n) (term_of nodes))
