use Rattle.fx_script_laws.proofs.OwnNames.{error_raised_again}
use Rattle.fx_script_laws.proofs.laws.handle_by_raise_in_scripts.Goals as goal

pub returns : goal.returns
returns c = error_raised_again
