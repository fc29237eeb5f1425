use Rattle.fx_run_events.proofs.CausesFound.{causes_of_run_told}
use Rattle.fx_command.proofs.CausesOfRun.{causes_of_run}
use Rattle.fx_command.proofs.laws.runs_are_drawn_with_their_causes.Goals as goal

pub returns : goal.returns
returns c nodes s may r told list counts report below are_followed are_counted =
    let tells = causes_of_run_told s may r report below nodes told list counts are_followed are_counted in
    (tells.lawful, causes_of_run nodes s may r told list counts tells)
