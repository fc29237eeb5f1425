use Rattle.fx_spawn_laws.proofs.JoinLaws.{joined_error}
use Rattle.fx_spawn_laws.proofs.joining.fiber_error_is_outcome_errored.Goals as goal

pub returns : goal.returns
returns c s may r n m = joined_error s may r m n
