use Rattle.fx_findings.proofs.PrintedReports.{passed_says, passed_ended}
use Rattle.fx_findings.proofs.laws.passed_search_is_complete.Goals as goal

pub returns-clause-complete : goal.returns-clause-complete
returns-clause-complete c = passed_says

pub returns-clause-ended : goal.returns-clause-ended
returns-clause-ended c = passed_ended
