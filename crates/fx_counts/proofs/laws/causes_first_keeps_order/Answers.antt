use Rattle.fx_counts.proofs.KeepsOrder.{keeps_order-from_causes}
use Rattle.fx_counts.proofs.laws.causes_first_keeps_order.Goals as goal

pub returns : goal.returns
returns c s may r lawful list whole order = keeps_order-from_causes s may r lawful list whole order
