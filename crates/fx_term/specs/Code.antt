-- Which lists of nodes are a code, and the first fault of one that is none.
use Rattle.std.specs.Prelude.{◌≡◌, ◌⊎◌, ℕ, suc, ◌+◌, ◌^◌, ◌<◌, ◌≤◌, List, [], ◌∷◌, ◌++◌, length, slice_get, take, All, Contains}
use Rattle.fx_term.specs.declared.node.NodeId.{NodeId}
use Rattle.fx_term.specs.declared.node.Node.{Node}
use Rattle.fx_term.specs.declared.code.CodeFault.{CodeFault}
use Rattle.fx_term.specs.declared.code.CodeFault.TheVariants.{Child, Slot, Kind, Limit, Memory}
use Rattle.fx_term.specs.Scope.{IsInScope}
use Rattle.fx_term.specs.Need.{need, NeedsFew}
use Rattle.fx_term.specs.QueuesNamed.{NamesQueuesBelow}
use Rattle.fx_term.specs.Meaning.{term_of, root_term}
use Rattle.fx_term.specs.Turns.{HasFewTurns}
use Rattle.fx_term.specs.Tree.{all_children, IsForest, IsOneTree}
use Rattle.fx_term.specs.Walk.{Spot, spots}
use Rattle.fx_term.specs.WellPlaced.{HasRightNumbers, HasRightKinds, IsWithinLimits, IsWellPlaced}

-- what a code is seen as: its nodes, and the number of queues that these may name
pub record CodeView : Type 0 where
  pub nodes : List Node
  pub queues : ℕ

-- one tree whose term stands in no binder's scope, whose loops have few turns, whose parts can use few fiber numbers, and which names no other queues than
-- these
pub record IsCode (queues : ℕ) (nodes : List Node) : Type 0 where
  pub fits : length nodes < 2 ^ 32
  pub tree : IsOneTree nodes
  pub scope : IsInScope [] (root_term nodes)
  pub turns : HasFewTurns 1 (root_term nodes)
  pub needs : NeedsFew (root_term nodes)
  pub named : NamesQueuesBelow queues (root_term nodes)

abbrev pub node_id : ℕ → NodeId
node_id n = record { 0 = n }

-- The first fault, in the order of the tests
pub data IsFault (queues : ℕ) (nodes : List Node) : CodeFault → Type 0 where
  no_node : length nodes ≡ 0 → IsFault queues nodes (Child (node_id 0))
  too_many : 2 ^ 32 ≤ length nodes → IsFault queues nodes (Child (node_id 0))
  -- a child of this node does not stand before it, or is a child already; no node before has such a child
  stray : {id : ℕ} → length nodes < 2 ^ 32 → id < length nodes → IsForest (take id nodes) → (IsForest (take (suc id) nodes) → ⊥)
      → IsFault queues nodes (Child (node_id id))
  -- this node is not the last, and nobody's child; each node before is somebody's
  orphan : {id : ℕ} → length nodes < 2 ^ 32 → IsForest nodes → id + 1 < length nodes → ((j : ℕ) → j < id → Contains (all_children nodes) j)
      → (Contains (all_children nodes) id → ⊥) → IsFault queues nodes (Child (node_id id))
  -- from the root down, this node is the first that is not well placed, and a slot of it is wrong, or a queue that it names is not there
  slot : (before after : List Spot) (s : Spot) → length nodes < 2 ^ 32 → IsOneTree nodes → spots nodes ≡ before ++ s ∷ after
      → All (IsWellPlaced queues nodes) before → (HasRightNumbers queues (length s.kinds) (slice_get nodes s.id) → ⊥)
      → IsFault queues nodes (Slot (node_id s.id))
  -- from the root down, this node is the first that is not well placed, and its slots and its queue are right
  kind : (before after : List Spot) (s : Spot) → length nodes < 2 ^ 32 → IsOneTree nodes → spots nodes ≡ before ++ s ∷ after
      → All (IsWellPlaced queues nodes) before → HasRightNumbers queues (length s.kinds) (slice_get nodes s.id)
      → (HasRightKinds s.kinds (slice_get nodes s.id) → ⊥)
      → IsFault queues nodes (Kind (node_id s.id))
  -- from the root down, this node is the first that is not well placed; its slots and its queue are right, and its names are of the right kinds
  limit : (before after : List Spot) (s : Spot) → length nodes < 2 ^ 32 → IsOneTree nodes → spots nodes ≡ before ++ s ∷ after
      → All (IsWellPlaced queues nodes) before → HasRightNumbers queues (length s.kinds) (slice_get nodes s.id) → HasRightKinds s.kinds (slice_get nodes s.id)
      → (IsWithinLimits s.turns (need (term_of nodes s.id)) (slice_get nodes s.id) → ⊥) → IsFault queues nodes (Limit (node_id s.id))

-- want of memory, or the first fault of the nodes
abbrev pub IsRefusal : ℕ → List Node → CodeFault → Type 0
IsRefusal queues nodes fault = (fault ≡ Memory) ⊎ IsFault queues nodes fault

-- the number of a fault
abbrev pub fault_number : CodeFault → ℕ
fault_number (Child id) = 1
fault_number (Slot id) = 2
fault_number (Kind id) = 3
fault_number Memory = 4
fault_number (Limit id) = 5
