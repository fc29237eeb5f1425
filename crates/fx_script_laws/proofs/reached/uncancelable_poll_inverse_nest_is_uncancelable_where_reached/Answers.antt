use Rattle.fx_script_laws.proofs.InverseMasks.{inverse_reached}
use Rattle.fx_script_laws.proofs.reached.uncancelable_poll_inverse_nest_is_uncancelable_where_reached.Goals as goal

pub returns : goal.returns
returns c = inverse_reached
