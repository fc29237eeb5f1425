use Rattle.fx_run.proofs.FalseRefusal.{false_is_lawful, false_is_refused}
use Rattle.fx_run.proofs.laws.reports.false_refusals_are_not_true.Goals as goal

pub returns-clause-lawful : goal.returns-clause-lawful
returns-clause-lawful c = false_is_lawful

pub returns-clause-refused : goal.returns-clause-refused
returns-clause-refused c = false_is_refused
