use Rattle.fx_script_laws.proofs.RegionLaws.{mask_of_sealed}
use Rattle.fx_script_laws.proofs.regions.mask_is_nothing_where_sealed.Goals as goal

pub returns : goal.returns
returns c = mask_of_sealed
