use Rattle.std.proofs.Common.{length}
use Rattle.fx_text.proofs.QueuesLaws.{Goes}
use Rattle.fx_text.proofs.queues.queues.Given as goal

abbrev pub invariant-loop-form : goal.invariant-loop-form
invariant-loop-form l = Goes l.text l.queues.items l.form l.rest

abbrev pub decreases-loop-form : goal.decreases-loop-form
decreases-loop-form l = length l.rest
