use Rattle.fx_findings.proofs.Judged.{each_is_expected}
use Rattle.fx_findings.proofs.laws.each_report_is_expected.Goals as goal

pub returns : goal.returns
returns c = each_is_expected
