use Rattle.fx_script_laws.proofs.RegionLaws.{polled_at_once}
use Rattle.fx_script_laws.proofs.regions.uncancelable_poll_is_identity_where_closed.Goals as goal

pub returns : goal.returns
returns c = polled_at_once
