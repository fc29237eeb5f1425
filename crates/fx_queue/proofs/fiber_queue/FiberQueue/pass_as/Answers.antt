use Rattle.std.proofs.Common.{ap}
use Rattle.fx_queue.specs.Queues.{HeldPass}
use Rattle.fx_queue.proofs.Splits.{splits_at}
use Rattle.fx_queue.proofs.fiber_queue.FiberQueue.pass_as.Goals as goal

pub another-other-requires-clause-rule : goal.another-other-requires-clause-rule
another-other-requires-clause-rule g c =
    splits_at _ _ c.args.pass.now.view c.args.end _ (ap (λ (s : HeldPass). s.view) c.pass.view_is) c.requires.given c.pass.invariant.1
    c.requires.range.0 c.requires.range.1
