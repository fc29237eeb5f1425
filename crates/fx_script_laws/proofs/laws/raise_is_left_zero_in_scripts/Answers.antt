use Rattle.fx_script_laws.proofs.EndsInScripts.{error_is_last}
use Rattle.fx_script_laws.proofs.laws.raise_is_left_zero_in_scripts.Goals as goal

pub returns : goal.returns
returns c = error_is_last
