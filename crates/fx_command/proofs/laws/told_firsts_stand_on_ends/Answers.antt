use Rattle.fx_plain.proofs.ChosenRuns.{replay_is_stamped_report}
use Rattle.fx_command.proofs.FirstsFound.{firsts_stand}
use Rattle.fx_command.proofs.laws.told_firsts_stand_on_ends.Goals as goal

pub returns : goal.returns
returns c nodes s ps told r tells is = (replay_is_stamped_report s ps r is, firsts_stand nodes s ps told r tells is)
