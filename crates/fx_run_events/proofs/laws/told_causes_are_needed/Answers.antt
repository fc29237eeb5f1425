use Rattle.fx_run_events.proofs.CausesFound.{causes_of_run_told}
use Rattle.fx_run_events.proofs.laws.told_causes_are_needed.Goals as goal

pub returns : goal.returns
returns c nodes s may r told list counts report below are_followed are_counted =
    causes_of_run_told s may r report below nodes told list counts are_followed are_counted
