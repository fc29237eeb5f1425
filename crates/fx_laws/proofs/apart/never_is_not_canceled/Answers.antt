use Rattle.fx_laws.proofs.SeenBefore.{canceled_is_told}
use Rattle.fx_laws.proofs.apart.never_is_not_canceled.Goals as goal

pub returns : goal.returns
returns c = canceled_is_told
