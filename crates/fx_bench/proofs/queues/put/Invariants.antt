use Rattle.std.proofs.Common.{◌≡◌}
use Rattle.fx_term.specs.Queue.{puts}
use Rattle.fx_queue.specs.Queues.{IsOf}
use Rattle.fx_bench.proofs.queues.put.Given as goal

abbrev pub invariant-putting : goal.invariant-putting
invariant-putting g l = record { of : IsOf l.pass l.queue; id : l.fiber ≡ l.pass.view.own.id; count : l.nth ≡ puts l.pass.view.own.acts }
