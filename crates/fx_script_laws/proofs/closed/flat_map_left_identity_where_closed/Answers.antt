use Rattle.fx_script_laws.proofs.ClosedLaws.{value_first}
use Rattle.fx_script_laws.proofs.closed.flat_map_left_identity_where_closed.Goals as goal

pub returns : goal.returns
returns c = value_first
