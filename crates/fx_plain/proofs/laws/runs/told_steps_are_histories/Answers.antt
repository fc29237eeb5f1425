use Rattle.fx_plain.proofs.ChosenRuns.{replay_is_stamped_report}
use Rattle.fx_plain.proofs.ToldQueues.{told_history}
use Rattle.fx_plain.proofs.laws.runs.told_steps_are_histories.Goals as goal

pub returns : goal.returns
returns c nodes s ps told r tells is = (replay_is_stamped_report s ps r is, λ q. told_history nodes s q ps told r tells is)
