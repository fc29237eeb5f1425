use Rattle.fx_plain.proofs.ChosenRuns.{replay_settles}
use Rattle.fx_plain.proofs.laws.runs.replay_is_settled.Goals as goal

pub returns : goal.returns
returns c = replay_settles
