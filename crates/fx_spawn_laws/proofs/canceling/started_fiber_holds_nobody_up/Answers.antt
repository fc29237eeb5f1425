use Rattle.fx_spawn_laws.proofs.CanceledFibers.{started_holds_nobody_up}
use Rattle.fx_spawn_laws.proofs.canceling.started_fiber_holds_nobody_up.Goals as goal

pub returns : goal.returns
returns c s may r t n is given lawful alone = started_holds_nobody_up s may r lawful alone given t n is
