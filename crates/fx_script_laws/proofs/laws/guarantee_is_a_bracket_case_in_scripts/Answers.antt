use Rattle.fx_script_laws.proofs.LawsInScripts.{guarantee_of_one_release}
use Rattle.fx_script_laws.proofs.laws.guarantee_is_a_bracket_case_in_scripts.Goals as goal

pub returns : goal.returns
returns c = guarantee_of_one_release
