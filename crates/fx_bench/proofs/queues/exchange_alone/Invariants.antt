use Rattle.std.proofs.Common.{◌≡◌}
use Rattle.fx_term.specs.Queue.{puts}
use Rattle.fx_queue.specs.Queues.{IsOf}
use Rattle.fx_bench.proofs.queues.exchange_alone.Given as goal

abbrev pub invariant-exchanging : goal.invariant-exchanging
invariant-exchanging g l = record { of : IsOf l.pass l.queue; id : l.fiber ≡ l.pass.view.own.id; count : l.nth ≡ puts l.pass.view.own.acts }
