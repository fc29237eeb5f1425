use Rattle.fx_script_laws.proofs.ExampleScripts.{either_order}
use Rattle.fx_script_laws.proofs.scripts.scripts_may_force_in_either_order.Goals as goal

pub returns : goal.returns
returns c = either_order
