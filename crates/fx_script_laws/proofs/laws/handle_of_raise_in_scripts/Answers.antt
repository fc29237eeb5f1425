use Rattle.fx_script_laws.proofs.StepsBefore.{error_handled}
use Rattle.fx_script_laws.proofs.laws.handle_of_raise_in_scripts.Goals as goal

pub returns : goal.returns
returns c = error_handled
