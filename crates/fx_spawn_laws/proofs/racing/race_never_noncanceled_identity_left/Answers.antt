use Rattle.fx_spawn_laws.proofs.RaceSides.{never_left}
use Rattle.fx_spawn_laws.proofs.racing.race_never_noncanceled_identity_left.Goals as goal

pub returns : goal.returns
returns c s may r t is given scoped h alone = never_left s may r t given h alone is scoped
