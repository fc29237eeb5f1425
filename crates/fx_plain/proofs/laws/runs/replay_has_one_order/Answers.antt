use Rattle.fx_plain.proofs.ChosenRuns.{replay_is_in_order}
use Rattle.fx_plain.proofs.laws.runs.replay_has_one_order.Goals as goal

pub returns : goal.returns
returns c = replay_is_in_order
