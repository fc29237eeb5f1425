use Rattle.fx_model.proofs.StampedReports.{ordered_by_stamps}
use Rattle.fx_model.proofs.laws.stamps.stamps_give_one_order.Goals as goal

pub returns : goal.returns
returns c = ordered_by_stamps
