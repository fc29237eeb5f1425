-- What is looked at is well placed, and less is to come each time.
use Rattle.std.proofs.Common.{length}
use Rattle.fx_term.proofs.SpotsToCome.{spots_to_come, IsWalked}
use Rattle.fx_term.proofs.code.walk.check_names.Given as goal

abbrev pub invariant-loop-pending : goal.invariant-loop-pending
invariant-loop-pending l = IsWalked l.queues l.nodes l.path.items l.stack.items

abbrev pub decreases-loop-pending : goal.decreases-loop-pending
decreases-loop-pending l = length (spots_to_come l.nodes l.path.items l.stack.items)
