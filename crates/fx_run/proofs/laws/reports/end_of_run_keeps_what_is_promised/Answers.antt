use Rattle.fx_run.proofs.Lawful.{end_keeps_promises}
use Rattle.fx_run.proofs.laws.reports.end_of_run_keeps_what_is_promised.Goals as goal

pub returns : goal.returns
returns c = λ s may r core h. end_keeps_promises s may r h core
