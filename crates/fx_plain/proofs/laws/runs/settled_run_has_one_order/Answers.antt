use Rattle.fx_plain.proofs.RunOrder.{settled_is_in_order}
use Rattle.fx_plain.proofs.laws.runs.settled_run_has_one_order.Goals as goal

pub returns : goal.returns
returns c = settled_is_in_order
