use Rattle.fx_laws.proofs.MonadLaws.{value_is_kept}
use Rattle.fx_laws.proofs.monads.handle_of_pure_is_pure.Goals as goal

pub returns : goal.returns
returns c = value_is_kept
