use Rattle.fx_look_laws.proofs.FiberLaws.{cancels_after, cancels_before}
use Rattle.fx_look_laws.proofs.looks.fibers_may_cancel_after_a_mask.Goals as goal

pub returns-clause-after : goal.returns-clause-after
returns-clause-after c = cancels_after

pub returns-clause-before : goal.returns-clause-before
returns-clause-before c = cancels_before
