use Rattle.fx_spawn_laws.proofs.CancelLaws.{canceled_and_joined}
use Rattle.fx_spawn_laws.proofs.canceling.fiber_cancelation_is_outcome_canceled.Goals as goal

pub returns : goal.returns
returns c s may r m = canceled_and_joined s may r m
