use Rattle.fx_findings.proofs.FoundReplays.{tells_report}
use Rattle.fx_findings.proofs.laws.report_is_told_as_it_is_printed.Goals as goal

pub returns : goal.returns
returns c = tells_report
