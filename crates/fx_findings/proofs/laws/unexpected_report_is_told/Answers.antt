use Rattle.fx_findings.proofs.Judged.{unexpected_is_told}
use Rattle.fx_findings.proofs.laws.unexpected_report_is_told.Goals as goal

pub returns : goal.returns
returns c = unexpected_is_told
