use Rattle.fx_plain.proofs.ChosenRuns.{replay_keeps_promises}
use Rattle.fx_plain.proofs.laws.runs.replay_keeps_what_is_promised.Goals as goal

pub returns : goal.returns
returns c s ps r core h = replay_keeps_promises s ps r core h
