use Rattle.fx_laws.proofs.NeverLaws.{forced_never_is_last}
use Rattle.fx_laws.proofs.never.force_r_never_is_never.Goals as goal

pub returns : goal.returns
returns c = forced_never_is_last
