use Rattle.std.proofs.Common.{◌≡◌, ◌+◌, length}
use Rattle.fx_sched.proofs.threads.fn.workers.scope.Given as goal

abbrev pub invariant-loop-job : goal.invariant-loop-job
invariant-loop-job g l = length l.threads.items + length l.job-iterator.rest.items ≡ length l.initial.job-iterator.rest.items
