use Rattle.std.proofs.Common.{◌≡◌, ◌+◌, length}
use Rattle.fx_sched.proofs.threads.jobs.Given as goal

abbrev pub invariant-loop-hand : goal.invariant-loop-hand
invariant-loop-hand g l = record {
  hands : length l.jobs.items + length l.hand-iterator.a.rest.items ≡ length l.fn.shared.items;
  shared : length l.jobs.items + length l.hand-iterator.b.rest.items ≡ length l.fn.shared.items;
}
