use Rattle.fx_model.proofs.RangeLaws.{run_start}
use Rattle.fx_model.proofs.laws.ranges.start_takes_its_range.Goals as goal

pub returns : goal.returns
returns c = run_start
