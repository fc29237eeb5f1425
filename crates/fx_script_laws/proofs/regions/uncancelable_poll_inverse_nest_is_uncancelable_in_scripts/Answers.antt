use Rattle.fx_script_laws.proofs.InverseMasks.{inverse_masks}
use Rattle.fx_script_laws.proofs.regions.uncancelable_poll_inverse_nest_is_uncancelable_in_scripts.Goals as goal

pub returns : goal.returns
returns c = inverse_masks
