use Rattle.fx_laws.proofs.ToldApart.{finalizer_is_seen}
use Rattle.fx_laws.proofs.apart.others_see_what_a_finalizer_does.Goals as goal

pub returns : goal.returns
returns c = finalizer_is_seen
