use Rattle.fx_model.proofs.Reports.{all_ended_on_true}
use Rattle.fx_model.proofs.report.Report.all_ended.Goals as goal

pub returns-clause-by_number : goal.returns-clause-by_number
returns-clause-by_number c = all_ended_on_true c.args.self.now c.has_each_ended.result c.has_each_ended.ensures
