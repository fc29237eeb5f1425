use Rattle.fx_plain.proofs.ChosenRuns.{replay_is_lawful}
use Rattle.fx_plain.proofs.laws.runs.replay_is_lawful.Goals as goal

pub returns : goal.returns
returns c = replay_is_lawful
