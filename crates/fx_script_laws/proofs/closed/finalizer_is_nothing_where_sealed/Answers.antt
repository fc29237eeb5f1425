use Rattle.fx_script_laws.proofs.ClosedLaws.{finalizer_of_sealed}
use Rattle.fx_script_laws.proofs.closed.finalizer_is_nothing_where_sealed.Goals as goal

pub returns : goal.returns
returns c = finalizer_of_sealed
