use Rattle.fx_script_laws.proofs.ClosedLaws.{finalizer_over_boundary}
use Rattle.fx_script_laws.proofs.closed.finalizer_over_a_boundary_where_closed.Goals as goal

pub returns : goal.returns
returns c = finalizer_over_boundary
