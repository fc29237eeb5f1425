use Rattle.std.proofs.Common.{◌≡◌}
use Rattle.fx_term.specs.Queue.{puts}
use Rattle.fx_queue.specs.Queues.{IsOf, IsSameFiber}
use Rattle.fx_queue_tests.proofs.queue.putting.put.Given as goal

abbrev pub invariant-putting : goal.invariant-putting
invariant-putting g l = record { of : IsOf l.pass l.queue; same : IsSameFiber l.fn.pass l.pass; count : l.nth ≡ puts l.pass.view.own.acts }
