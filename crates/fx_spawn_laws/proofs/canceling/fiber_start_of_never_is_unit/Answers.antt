use Rattle.fx_spawn_laws.proofs.CancelLaws.{started_never}
use Rattle.fx_spawn_laws.proofs.canceling.fiber_start_of_never_is_unit.Goals as goal

pub returns : goal.returns
returns c s may r n = started_never s may r n
