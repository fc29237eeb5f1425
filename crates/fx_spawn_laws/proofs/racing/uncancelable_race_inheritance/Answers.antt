use Rattle.fx_spawn_laws.proofs.RaceLaws.{race_in_mask_waits}
use Rattle.fx_spawn_laws.proofs.racing.uncancelable_race_inheritance.Goals as goal

pub returns : goal.returns
returns c s may r = race_in_mask_waits s may r
