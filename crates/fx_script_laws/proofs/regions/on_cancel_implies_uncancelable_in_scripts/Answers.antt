use Rattle.fx_script_laws.proofs.FinalizersInScripts.{masked_finalizer}
use Rattle.fx_script_laws.proofs.regions.on_cancel_implies_uncancelable_in_scripts.Goals as goal

pub returns : goal.returns
returns c = masked_finalizer
