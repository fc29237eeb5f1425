use Rattle.fx_script_laws.proofs.ClosedLaws.{turn_first}
use Rattle.fx_script_laws.proofs.closed.cede_before_a_term_where_closed.Goals as goal

pub returns : goal.returns
returns c = turn_first
