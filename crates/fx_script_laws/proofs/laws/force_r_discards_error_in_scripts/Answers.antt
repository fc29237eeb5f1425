use Rattle.fx_script_laws.proofs.StepsBefore.{forced_raise}
use Rattle.fx_script_laws.proofs.laws.force_r_discards_error_in_scripts.Goals as goal

pub returns : goal.returns
returns c = forced_raise
