use Rattle.fx_script_laws.proofs.KeptApart.{mask_for_inside}
use Rattle.fx_script_laws.proofs.refused.mask_is_not_put_for_its_inside.Goals as goal

pub returns : goal.returns
returns c = mask_for_inside
