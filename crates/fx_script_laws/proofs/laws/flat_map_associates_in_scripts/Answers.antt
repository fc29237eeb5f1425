use Rattle.fx_script_laws.proofs.LawsInScripts.{bound_in_order}
use Rattle.fx_script_laws.proofs.laws.flat_map_associates_in_scripts.Goals as goal

pub returns : goal.returns
returns c = bound_in_order
