use Rattle.fx_report.proofs.WritableReports.{lawful_is_writable}
use Rattle.fx_report.proofs.laws.reports.lawful_report_is_writable.Goals as goal

pub returns : goal.returns
returns c = lawful_is_writable
