use Rattle.fx_queue.specs.Queues.{IsOf}
use Rattle.fx_bench.proofs.queues.take.Given as goal

abbrev pub invariant-taking : goal.invariant-taking
invariant-taking g l = IsOf l.pass l.queue
