use Rattle.fx_laws.proofs.MonadLaws.{value_is_put, value_is_put_exactly}
use Rattle.fx_laws.proofs.monads.flat_map_left_identity.Goals as goal

pub returns-clause-same : goal.returns-clause-same
returns-clause-same c = value_is_put

pub returns-clause-exactly : goal.returns-clause-exactly
returns-clause-exactly c = value_is_put_exactly
