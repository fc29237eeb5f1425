use Rattle.fx_script_laws.proofs.StepsBefore.{value_bound}
use Rattle.fx_script_laws.proofs.laws.flat_map_left_identity_in_scripts.Goals as goal

pub returns : goal.returns
returns c = value_bound
