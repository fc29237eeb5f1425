use Rattle.fx_laws.proofs.CanceledLaws.{canceled_is_last}
use Rattle.fx_laws.proofs.cancellation.canceled_short_circuits_flat_map.Goals as goal

pub returns : goal.returns
returns c = canceled_is_last
