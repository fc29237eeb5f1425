use Rattle.fx_script_laws.proofs.OwnNames.{value_of_release_is_dropped}
use Rattle.fx_script_laws.proofs.laws.value_of_a_release_in_scripts.Goals as goal

pub returns : goal.returns
returns c = value_of_release_is_dropped
