use Rattle.fx_laws.proofs.SeenBefore.{mask_is_told}
use Rattle.fx_laws.proofs.apart.mask_is_not_its_inside.Goals as goal

pub returns : goal.returns
returns c = mask_is_told
