use Rattle.fx_script_laws.proofs.RegionLaws.{mask_reached}
use Rattle.fx_script_laws.proofs.reached.mask_is_nothing_where_reached.Goals as goal

pub returns : goal.returns
returns c = mask_reached
