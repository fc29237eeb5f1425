use Rattle.fx_script_laws.proofs.ClosedLaws.{pure_before}
use Rattle.fx_script_laws.proofs.closed.force_r_discards_pure_where_closed.Goals as goal

pub returns : goal.returns
returns c = pure_before
