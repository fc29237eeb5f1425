use Rattle.fx_laws.proofs.CanceledInMask.{canceled_in_mask}
use Rattle.fx_laws.proofs.cancellation.uncancelable_canceled_associates_right_over_flat_map.Goals as goal

pub returns : goal.returns
returns c = canceled_in_mask
