use Rattle.fx_laws.proofs.CanceledInOrder.{in_order_looks_like_all, in_order_looks_the_same}
use Rattle.fx_laws.proofs.finalizers.canceled_sequences_on_cancel_in_order.Goals as goal

pub returns-clause-same : goal.returns-clause-same
returns-clause-same c = in_order_looks_the_same

pub returns-clause-all : goal.returns-clause-all
returns-clause-all c = in_order_looks_like_all
