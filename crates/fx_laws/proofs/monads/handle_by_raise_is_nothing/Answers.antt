use Rattle.fx_laws.proofs.MonadLaws.{error_raised_again}
use Rattle.fx_laws.proofs.monads.handle_by_raise_is_nothing.Goals as goal

pub returns : goal.returns
returns c = error_raised_again
