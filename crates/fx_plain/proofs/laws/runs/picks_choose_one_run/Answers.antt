use Rattle.fx_plain.proofs.LawfulRuns.{opening_is_kept}
use Rattle.fx_plain.proofs.OneRun.{one_run}
use Rattle.fx_plain.proofs.laws.runs.picks_choose_one_run.Goals as goal

pub returns : goal.returns
returns c s ps moves moves' last last' run run' = one_run s (opening_is_kept s) run run'
