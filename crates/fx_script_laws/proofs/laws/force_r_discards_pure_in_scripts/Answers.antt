use Rattle.fx_script_laws.proofs.StepsBefore.{forced_pure}
use Rattle.fx_script_laws.proofs.laws.force_r_discards_pure_in_scripts.Goals as goal

pub returns : goal.returns
returns c = forced_pure
