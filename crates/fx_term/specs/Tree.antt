-- Which lists of nodes are one tree.
use Rattle.std.specs.Prelude.{◌≡◌, ◌≢◌, ℕ, ◌+◌, ◌<◌, nat_eq, Some, List, [], length, map, slice_get, All, Contains}
use Rattle.std.specs.List.{IsDistinct, flat_map}
use Rattle.fx_term.specs.declared.node.Node.{Node}
use Rattle.fx_term.specs.Signature.{parts}

-- the numbers of a node's children, in the order of the text
abbrev pub children : Node → List ℕ
children n = map (λ p. p.node.0) (parts n)

-- the children of the nodes, node by node
abbrev pub all_children : List Node → List ℕ
all_children nodes = flat_map children nodes

-- children stand before their parents
abbrev pub ChildrenComeFirst : List Node → Type 0
ChildrenComeFirst nodes = (id : ℕ) (n : Node) → slice_get nodes id ≡ Some n → All (λ c. c < id) (children n)

-- children stand before their parents, and no node is a child twice
pub record IsForest (nodes : List Node) : Type 0 where
  pub before : ChildrenComeFirst nodes
  pub once : IsDistinct nat_eq (all_children nodes)

-- a forest in which each node but the last is a child
pub record IsOneTree (nodes : List Node) : Type 0 where
  pub some_node : nodes ≢ []
  pub forest : IsForest nodes
  pub each : (id : ℕ) → id + 1 < length nodes → Contains (all_children nodes) id
