use Rattle.fx_script_laws.proofs.ExampleScripts.{given_again}
use Rattle.fx_script_laws.proofs.scripts.scripts_may_give_a_value_again.Goals as goal

pub returns : goal.returns
returns c = given_again
