use Rattle.fx_follow.proofs.ToldRuns.{lawful_by_runs_told}
use Rattle.fx_follow.proofs.laws.told_runs_make_the_report_lawful.Goals as goal

pub returns : goal.returns
returns c = lawful_by_runs_told
