use Rattle.fx_laws.proofs.MonadLaws.{error_is_first}
use Rattle.fx_laws.proofs.monads.raise_is_left_zero_of_flat_map.Goals as goal

pub returns : goal.returns
returns c = error_is_first
