use Rattle.fx_spawn_laws.proofs.JoinLaws.{joined_value}
use Rattle.fx_spawn_laws.proofs.joining.fiber_pure_is_outcome_completed_pure.Goals as goal

pub returns : goal.returns
returns c s may r n m = joined_value s may r m n
