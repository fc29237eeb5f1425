use Rattle.fx_findings.proofs.PrintedReports.{each_is_printed}
use Rattle.fx_findings.proofs.laws.complete_search_prints_each_report.Goals as goal

pub returns : goal.returns
returns c = each_is_printed
