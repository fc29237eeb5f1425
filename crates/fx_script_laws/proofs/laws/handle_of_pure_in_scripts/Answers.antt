use Rattle.fx_script_laws.proofs.EndsInScripts.{value_is_kept}
use Rattle.fx_script_laws.proofs.laws.handle_of_pure_in_scripts.Goals as goal

pub returns : goal.returns
returns c = value_is_kept
