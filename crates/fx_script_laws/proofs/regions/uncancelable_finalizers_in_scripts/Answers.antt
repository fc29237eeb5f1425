use Rattle.fx_script_laws.proofs.FinalizersInScripts.{masked_finalizer}
use Rattle.fx_term.specs.Term.{Canceled}
use Rattle.fx_script_laws.proofs.regions.uncancelable_finalizers_in_scripts.Goals as goal

pub returns : goal.returns
returns c scope p f scoped = masked_finalizer scope p Canceled f scoped
