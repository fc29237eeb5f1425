use Rattle.fx_queue.specs.Queues.{IsOf, IsSameFiber}
use Rattle.fx_queue_tests.proofs.queue.four_threads.take.Given as goal

abbrev pub invariant-taking : goal.invariant-taking
invariant-taking g l = record { of : IsOf l.tally.pass l.queue; same : IsSameFiber l.fn.tally.pass l.tally.pass }
