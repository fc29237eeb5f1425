use Rattle.fx_laws.proofs.FinalizerLaws.{masked_finalizer_is_itself, masked_finalizer_at_depth}
use Rattle.fx_laws.proofs.finalizers.on_cancel_implies_uncancelable.Goals as goal

pub returns-clause-everywhere : goal.returns-clause-everywhere
returns-clause-everywhere c = masked_finalizer_is_itself

pub returns-clause-depth : goal.returns-clause-depth
returns-clause-depth c = masked_finalizer_at_depth
