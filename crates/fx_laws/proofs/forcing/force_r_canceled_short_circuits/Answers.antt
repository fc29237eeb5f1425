use Rattle.fx_laws.proofs.CanceledLaws.{forced_canceled_is_last}
use Rattle.fx_laws.proofs.forcing.force_r_canceled_short_circuits.Goals as goal

pub returns : goal.returns
returns c = forced_canceled_is_last
