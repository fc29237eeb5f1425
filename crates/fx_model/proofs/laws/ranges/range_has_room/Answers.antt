use Rattle.fx_model.proofs.RangeLaws.{run_need}
use Rattle.fx_model.proofs.laws.ranges.range_has_room.Goals as goal

pub returns : goal.returns
returns c = run_need
