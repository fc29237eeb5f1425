use Rattle.fx_run.proofs.Lawful.{end_is_lawful}
use Rattle.fx_run.proofs.laws.reports.end_of_run_is_lawful.Goals as goal

pub returns : goal.returns
returns c = end_is_lawful
