use Rattle.fx_script_laws.proofs.PolledAtOnce.{polled_openly}
use Rattle.fx_script_laws.proofs.regions.uncancelable_poll_is_identity_in_scripts.Goals as goal

pub returns : goal.returns
returns c = polled_openly
