use Rattle.fx_laws.proofs.ForcingLaws.{forced_in_order}
use Rattle.fx_laws.proofs.forcing.force_r_associativity.Goals as goal

pub returns : goal.returns
returns c = forced_in_order
