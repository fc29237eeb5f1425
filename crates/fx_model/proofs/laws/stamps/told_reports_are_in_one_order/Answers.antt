use Rattle.fx_model.proofs.ToldStamps.{told_in_order}
use Rattle.fx_model.proofs.laws.stamps.told_reports_are_in_one_order.Goals as goal

pub returns : goal.returns
returns c = told_in_order
