use Rattle.fx_script_laws.proofs.ExampleScripts.{polled_in_mask}
use Rattle.fx_script_laws.proofs.regions.scripts_may_mask_and_poll_in_a_mask.Goals as goal

pub returns : goal.returns
returns c = polled_in_mask
