use Rattle.fx_script_laws.proofs.LawsInScripts.{forced_in_order}
use Rattle.fx_script_laws.proofs.laws.force_r_associates_in_scripts.Goals as goal

pub returns : goal.returns
returns c = forced_in_order
