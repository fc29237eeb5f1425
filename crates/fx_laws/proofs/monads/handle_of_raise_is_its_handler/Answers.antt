use Rattle.fx_laws.proofs.MonadLaws.{error_is_put, error_is_put_exactly}
use Rattle.fx_laws.proofs.monads.handle_of_raise_is_its_handler.Goals as goal

pub returns-clause-same : goal.returns-clause-same
returns-clause-same c = error_is_put

pub returns-clause-exactly : goal.returns-clause-exactly
returns-clause-exactly c = error_is_put_exactly
