use Rattle.fx_run.proofs.Answered.{none_is_lost, not_lost}
use Rattle.fx_run.proofs.laws.reports.lost_or_whole.Goals as goal

pub returns-clause-whole : goal.returns-clause-whole
returns-clause-whole c = none_is_lost

pub returns-clause-none : goal.returns-clause-none
returns-clause-none c = not_lost
