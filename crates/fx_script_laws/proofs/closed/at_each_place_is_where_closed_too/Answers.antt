use Rattle.fx_script_laws.proofs.WholeTerms.{each_place_is_there}
use Rattle.fx_script_laws.proofs.closed.at_each_place_is_where_closed_too.Goals as goal

pub returns : goal.returns
returns c = each_place_is_there
