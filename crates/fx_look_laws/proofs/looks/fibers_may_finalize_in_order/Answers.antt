use Rattle.fx_look_laws.proofs.FiberLaws.{in_a_mask, in_finalizers}
use Rattle.fx_look_laws.proofs.looks.fibers_may_finalize_in_order.Goals as goal

pub returns-clause-masked : goal.returns-clause-masked
returns-clause-masked c = in_a_mask

pub returns-clause-finalized : goal.returns-clause-finalized
returns-clause-finalized c = in_finalizers
