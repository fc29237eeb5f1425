use Rattle.fx_script_laws.proofs.StepsBefore.{turn_before}
use Rattle.fx_script_laws.proofs.laws.cede_before_a_term_in_scripts.Goals as goal

pub returns : goal.returns
returns c = turn_before
