use Rattle.fx_spawn_laws.proofs.CanceledFibers.{started_in_mask_ends}
use Rattle.fx_spawn_laws.proofs.canceling.start_in_a_mask_is_awaited.Goals as goal

pub returns : goal.returns
returns c s may r t is given lawful alone = started_in_mask_ends s may r lawful alone given t is
