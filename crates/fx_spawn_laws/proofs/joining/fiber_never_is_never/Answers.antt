use Rattle.fx_spawn_laws.proofs.JoinLaws.{joined_never}
use Rattle.fx_spawn_laws.proofs.joining.fiber_never_is_never.Goals as goal

pub returns : goal.returns
returns c s may r m = joined_never s may r m
