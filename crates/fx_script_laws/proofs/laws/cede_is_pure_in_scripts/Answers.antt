use Rattle.fx_script_laws.proofs.LawsInScripts.{cede_is_pure}
use Rattle.fx_script_laws.proofs.laws.cede_is_pure_in_scripts.Goals as goal

pub returns : goal.returns
returns c = cede_is_pure
