use Rattle.std.proofs.Common.{◌≡◌, [], replicate}
use Rattle.fx_command.proofs.so_far.empty_queues.Given as goal

abbrev pub invariant-loop-queue : goal.invariant-loop-queue
invariant-loop-queue l = l.queues.items ≡ replicate l._queue []
