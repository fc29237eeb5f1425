use Rattle.fx_plain.proofs.ChosenRuns.{replay_is_stamped_report}
use Rattle.fx_plain.proofs.ToldCauses.{told_learns}
use Rattle.fx_plain.proofs.laws.runs.told_steps_learn_of_ends.Goals as goal

pub returns : goal.returns
returns c nodes s ps told r tells is = (replay_is_stamped_report s ps r is, told_learns nodes s ps told r tells is)
