use Rattle.fx_spawn_laws.proofs.RaceSides.{canceled_right}
use Rattle.fx_spawn_laws.proofs.racing.race_canceled_identity_right.Goals as goal

pub returns : goal.returns
returns c s may r t is given scoped h alone = canceled_right s may r t given h alone is scoped
