-- The first fault of a list that is too short or too long.
use Rattle.std.proofs.Common.{length, sym, arith, eqb-true}
use Rattle.fx_term.specs.Code.{no_node, too_many}
use Rattle.fx_term.proofs.code.check_count.Goals as goal
use Rattle.fx_term.proofs.code.check_count.Goals.{then-is_empty-via-then-is_empty, then-is_empty-via-else-is_empty+then-nodes-gt-MOST_NODES}

pub returns-then-is_empty-clause-fault : goal.returns-then-is_empty-clause-fault
returns-then-is_empty-clause-fault c = elim c.then-is_empty.branch [
  | then-is_empty-via-then-is_empty w ↦ λ queues. no_node (eqb-true (length c.args.nodes.now) 0 (sym w.if-is_empty.ensures))
  | then-is_empty-via-else-is_empty+then-nodes-gt-MOST_NODES w ↦ λ queues. too_many (omega arith)
]
