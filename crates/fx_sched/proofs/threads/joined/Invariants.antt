use Rattle.std.proofs.Common.{◌≡◌, ◌+◌, length}
use Rattle.fx_sched.proofs.threads.joined.Given as goal

abbrev pub invariant-loop-thread : goal.invariant-loop-thread
invariant-loop-thread g l = length l.told.items + length l.thread-iterator.rest.items ≡ length l.fn.told.items + length l.fn.threads.items
