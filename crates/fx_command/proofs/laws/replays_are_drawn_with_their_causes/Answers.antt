use Rattle.fx_plain.proofs.ChosenRuns.{replay_is_stamped_report}
use Rattle.fx_command.proofs.CausesFound.{draws_causes}
use Rattle.fx_command.proofs.laws.replays_are_drawn_with_their_causes.Goals as goal

pub returns : goal.returns
returns c nodes s ps told r tells is = (replay_is_stamped_report s ps r is, draws_causes nodes s ps told r tells is)
