use Rattle.fx_script_laws.proofs.MaskedFinalizers.{finalizer_reached}
use Rattle.fx_script_laws.proofs.reached.uncancelable_eliminates_on_cancel_where_reached.Goals as goal

pub returns : goal.returns
returns c = finalizer_reached
