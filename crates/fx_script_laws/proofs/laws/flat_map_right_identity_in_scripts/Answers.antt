use Rattle.fx_script_laws.proofs.OwnNames.{value_given_again}
use Rattle.fx_script_laws.proofs.laws.flat_map_right_identity_in_scripts.Goals as goal

pub returns : goal.returns
returns c = value_given_again
