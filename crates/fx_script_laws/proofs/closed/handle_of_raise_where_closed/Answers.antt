use Rattle.fx_script_laws.proofs.ClosedLaws.{error_first}
use Rattle.fx_script_laws.proofs.closed.handle_of_raise_where_closed.Goals as goal

pub returns : goal.returns
returns c = error_first
