use Rattle.fx_plain.proofs.ChosenRuns.{replay_is_stamped_report}
use Rattle.fx_command.proofs.GetsFound.{gets_stand}
use Rattle.fx_command.proofs.laws.told_gets_stand_on_puts.Goals as goal

pub returns : goal.returns
returns c nodes s ps told r tells is = (replay_is_stamped_report s ps r is, gets_stand nodes s ps told r tells is)
