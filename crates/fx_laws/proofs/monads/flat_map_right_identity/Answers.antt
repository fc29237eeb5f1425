use Rattle.fx_laws.proofs.MonadLaws.{value_given_again}
use Rattle.fx_laws.proofs.monads.flat_map_right_identity.Goals as goal

pub returns : goal.returns
returns c = value_given_again
