use Rattle.fx_findings.proofs.ReadBlocks.{report_then}
use Rattle.fx_findings.proofs.laws.report_is_read.Goals as goal

pub returns : goal.returns
returns c lines rest are full some = report_then lines rest are full some
