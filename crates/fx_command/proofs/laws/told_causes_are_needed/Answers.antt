use Rattle.fx_plain.proofs.ChosenRuns.{replay_is_stamped_report}
use Rattle.fx_command.proofs.CausesFound.{tells_causes}
use Rattle.fx_command.proofs.laws.told_causes_are_needed.Goals as goal

pub returns : goal.returns
returns c nodes s ps told r tells is = (replay_is_stamped_report s ps r is, tells_causes nodes s ps told r tells is)
