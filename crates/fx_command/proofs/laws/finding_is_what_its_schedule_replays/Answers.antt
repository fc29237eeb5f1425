use Rattle.fx_command.proofs.FoundAnswers.{answered_again}
use Rattle.fx_command.proofs.laws.finding_is_what_its_schedule_replays.Goals as goal

pub returns : goal.returns
returns c script expected words text m target x ps status is h e small few answer =
    answered_again m target x ps h e script expected words status text is small few answer
