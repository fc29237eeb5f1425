-- The needs of the nodes before are made.
use Rattle.fx_term.specs.NodeNeed.{AreNeeds}
use Rattle.fx_term.proofs.code.needs.needs_of_nodes.Given as goal

abbrev pub invariant-loop-node : goal.invariant-loop-node
invariant-loop-node l = AreNeeds l.nodes l.node-index l.needs.items
