use Rattle.fx_term.specs.Term.{Canceled}
use Rattle.fx_laws.proofs.FinalizerLaws.{masked_finalizer_is_itself}
use Rattle.fx_laws.proofs.finalizers.uncancelable_finalizers.Goals as goal

pub returns : goal.returns
returns c scope p f = masked_finalizer_is_itself scope p Canceled f
