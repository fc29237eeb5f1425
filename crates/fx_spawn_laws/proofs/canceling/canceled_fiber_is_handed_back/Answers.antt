use Rattle.fx_spawn_laws.proofs.CanceledFibers.{canceled_is_handed_back}
use Rattle.fx_spawn_laws.proofs.canceling.canceled_fiber_is_handed_back.Goals as goal

pub returns : goal.returns
returns c s may r t m is given lawful alone = canceled_is_handed_back s may r lawful alone given t m is
