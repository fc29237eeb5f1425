use Rattle.fx_script_laws.proofs.LawsInScripts.{forced_canceled}
use Rattle.fx_script_laws.proofs.laws.force_r_canceled_in_scripts.Goals as goal

pub returns : goal.returns
returns c = forced_canceled
