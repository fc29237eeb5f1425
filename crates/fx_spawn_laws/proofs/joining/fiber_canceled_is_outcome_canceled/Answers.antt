use Rattle.fx_spawn_laws.proofs.JoinLaws.{joined_canceled}
use Rattle.fx_spawn_laws.proofs.joining.fiber_canceled_is_outcome_canceled.Goals as goal

pub returns : goal.returns
returns c s may r m = joined_canceled s may r m
