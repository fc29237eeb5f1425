use Rattle.fx_spawn_laws.proofs.RaceSides.{canceled_left}
use Rattle.fx_spawn_laws.proofs.racing.race_canceled_identity_left.Goals as goal

pub returns : goal.returns
returns c s may r t is given scoped h alone = canceled_left s may r t given h alone is scoped
