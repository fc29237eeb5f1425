-- Which nodes are leaves, whether a leaf's rule asks the port, and the context that is entered at any other node.
use Rattle.std.specs.Prelude.{◌≡◌, ℕ, Bool, true, false, Option, Some, None, List, [], ◌∷◌}
use Rattle.fx_term.specs.declared.node.NodeId.{NodeId}
use Rattle.fx_term.specs.declared.node.Node.{Node}
use Rattle.fx_term.specs.declared.node.Node.TheVariants as node
use Rattle.fx_term.specs.declared.done.Done.{Done}
use Rattle.fx_term.specs.declared.done.Done.TheVariants.{Val}
use Rattle.fx_frames.specs.declared.frame.Frame.{Frame}
use Rattle.fx_frames.specs.declared.frame.Frame.TheVariants as frame

-- a node whose term is its own leaf
abbrev pub IsLeafNode : Option Node → Type 0
IsLeafNode (Some (node.Pure a)) = Unit {0}
IsLeafNode (Some (node.Raise a)) = Unit {0}
IsLeafNode (Some node.Canceled) = Unit {0}
IsLeafNode (Some node.Never) = Unit {0}
IsLeafNode (Some node.Cede) = Unit {0}
IsLeafNode (Some (node.If v a b)) = Unit {0}
IsLeafNode (Some (node.For i c a)) = Unit {0}
IsLeafNode (Some (node.Mask p a)) = Unit {0}
IsLeafNode (Some (node.Poll p a)) = Unit {0}
IsLeafNode (Some (node.Start h a b)) = Unit {0}
IsLeafNode (Some (node.Join f x a e b d)) = Unit {0}
IsLeafNode (Some (node.Cancel f)) = Unit {0}
IsLeafNode (Some (node.First f g)) = Unit {0}
IsLeafNode (Some (node.Offer q v)) = Unit {0}
IsLeafNode (Some (node.TryOffer q v)) = Unit {0}
IsLeafNode (Some (node.Take q)) = Unit {0}
IsLeafNode (Some (node.TryTake q x a b)) = Unit {0}
IsLeafNode (Some (node.Let x a b)) = ⊥
IsLeafNode (Some (node.Handle a x b)) = ⊥
IsLeafNode (Some (node.OnCancel a f)) = ⊥
IsLeafNode (Some (node.Bracket x a u r)) = ⊥
IsLeafNode (Some (node.BracketCase x a u y s z e d)) = ⊥
IsLeafNode None = ⊥

-- a leaf whose rule asks nothing of the port
abbrev pub IsLocalLeaf : Node → Type 0
IsLocalLeaf node.Never = ⊥
IsLocalLeaf (node.Start h a b) = ⊥
IsLocalLeaf (node.Join f x a e b d) = ⊥
IsLocalLeaf (node.Cancel f) = ⊥
IsLocalLeaf (node.First f g) = ⊥
IsLocalLeaf (node.Offer q v) = ⊥
IsLocalLeaf (node.TryOffer q v) = ⊥
IsLocalLeaf (node.Take q) = ⊥
IsLocalLeaf (node.TryTake q x a b) = ⊥
IsLocalLeaf n = IsLeafNode (Some n)

-- a leaf whose rule shows nothing, asks nothing of the port, and is not that of `cede`
abbrev pub is_silent_node : Node → Bool
is_silent_node (node.Pure a) = true
is_silent_node (node.Raise a) = true
is_silent_node (node.If v a b) = true
is_silent_node (node.For i c a) = true
is_silent_node (node.Mask p a) = true
is_silent_node (node.Poll p a) = true
is_silent_node _ = false

-- a result shows nothing in the innermost of these contexts
abbrev pub is_silent_inside : List Frame → Bool
is_silent_inside [] = false
is_silent_inside (frame.Acquire id ∷ outer) = false
is_silent_inside (frame.Using k r ∷ outer) = false
is_silent_inside (frame.AcquireCase id ∷ outer) = false
is_silent_inside (frame.UsingCase k id d ∷ outer) = false
is_silent_inside (frame.Releasing k v ∷ outer) = false
is_silent_inside (f ∷ outer) = true

-- a result shows something of a bracket in the innermost of these contexts
abbrev pub is_of_bracket : List Frame → Done → Bool
is_of_bracket (frame.Acquire id ∷ outer) (Val n) = true
is_of_bracket (frame.Using k r ∷ outer) v = true
is_of_bracket (frame.AcquireCase id ∷ outer) (Val n) = true
is_of_bracket (frame.UsingCase k id d ∷ outer) v = true
is_of_bracket (frame.Releasing k w ∷ outer) v = true
is_of_bracket frames v = false

-- a `join`
abbrev pub IsJoin : Node → Type 0
IsJoin (node.Join f x a e b d) = Unit {0}
IsJoin n = ⊥

-- a `trytake`
abbrev pub IsTryTake : Node → Type 0
IsTryTake (node.TryTake q x a b) = Unit {0}
IsTryTake n = ⊥

-- it is `canceled`
abbrev pub is_canceled_node : Node → Bool
is_canceled_node node.Canceled = true
is_canceled_node _ = false

-- the context that is entered at this node, with the part that stands in it
abbrev pub IsEntryOf : NodeId → Node → Frame → NodeId → Type 0
IsEntryOf id n (frame.Let x b) a = n ≡ node.Let x a b
IsEntryOf id n (frame.Handle x b) a = n ≡ node.Handle a x b
IsEntryOf id n (frame.OnCancel f) a = n ≡ node.OnCancel a f
IsEntryOf id n (frame.Acquire own) a = (own ≡ id) × (x : Option ℕ) × (u : NodeId) × (r : NodeId) × (n ≡ node.Bracket x a u r)
IsEntryOf id n (frame.Using k r) a = ⊥
IsEntryOf id n (frame.AcquireCase own) a =
    (own ≡ id) × (x : ℕ) × (u : NodeId) × (y : ℕ) × (s : NodeId) × (z : ℕ) × (e : NodeId) × (d : NodeId) × (n ≡ node.BracketCase x a u y s z e d)
IsEntryOf id n (frame.UsingCase k own d) a = ⊥
IsEntryOf id n (frame.Releasing k v) a = ⊥
IsEntryOf id n (frame.Loop own turn) a = ⊥
IsEntryOf id n frame.Masked a = ⊥
IsEntryOf id n (frame.Opened r took_off) a = ⊥
