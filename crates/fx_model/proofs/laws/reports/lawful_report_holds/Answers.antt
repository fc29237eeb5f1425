use Rattle.fx_model.proofs.HeadlineLaws.{lawful_report_holds}
use Rattle.fx_model.proofs.laws.reports.lawful_report_holds.Goals as goal

pub returns : goal.returns
returns c = lawful_report_holds
