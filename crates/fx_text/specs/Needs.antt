-- What is known of the nodes that were made so far.
use Rattle.std.specs.Prelude.{ℕ, List, length}
use Rattle.fx_term.specs.declared.node.Node.{Node}
use Rattle.fx_term.specs.Tree.{ChildrenComeFirst}
use Rattle.fx_term.specs.NodeNeed.{AreNeeds}

-- children stand before their parents, and these are the needs of the nodes, those above the most capped
pub record AreMade (nodes : List Node) (needs : List ℕ) : Type 0 where
  pub tree : ChildrenComeFirst nodes
  pub each : AreNeeds nodes (length nodes) needs
