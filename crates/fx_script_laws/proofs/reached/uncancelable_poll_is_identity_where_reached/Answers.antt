use Rattle.fx_script_laws.proofs.PolledAtOnce.{polled_openly_reached}
use Rattle.fx_script_laws.proofs.RegionLaws.{polled_reached}
use Rattle.fx_script_laws.proofs.reached.uncancelable_poll_is_identity_where_reached.Goals as goal

pub returns-clause-closed : goal.returns-clause-closed
returns-clause-closed c = polled_reached

pub returns-clause-openly : goal.returns-clause-openly
returns-clause-openly c = polled_openly_reached
