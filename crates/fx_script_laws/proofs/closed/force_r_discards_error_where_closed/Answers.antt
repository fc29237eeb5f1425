use Rattle.fx_script_laws.proofs.ClosedLaws.{error_before}
use Rattle.fx_script_laws.proofs.closed.force_r_discards_error_where_closed.Goals as goal

pub returns : goal.returns
returns c = error_before
