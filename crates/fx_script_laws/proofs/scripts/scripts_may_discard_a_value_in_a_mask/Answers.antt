use Rattle.fx_script_laws.proofs.ExampleScripts.{discarded_in_mask}
use Rattle.fx_script_laws.proofs.scripts.scripts_may_discard_a_value_in_a_mask.Goals as goal

pub returns : goal.returns
returns c = discarded_in_mask
