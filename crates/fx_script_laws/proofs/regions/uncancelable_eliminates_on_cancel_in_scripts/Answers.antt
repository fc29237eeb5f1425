use Rattle.fx_script_laws.proofs.MaskedFinalizers.{finalizer_in_mask}
use Rattle.fx_script_laws.proofs.regions.uncancelable_eliminates_on_cancel_in_scripts.Goals as goal

pub returns : goal.returns
returns c = finalizer_in_mask
