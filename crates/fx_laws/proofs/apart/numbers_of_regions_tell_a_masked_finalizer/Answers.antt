use Rattle.fx_laws.proofs.ToldByRegion.{masked_finalizer_is_told}
use Rattle.fx_laws.proofs.apart.numbers_of_regions_tell_a_masked_finalizer.Goals as goal

pub returns : goal.returns
returns c = masked_finalizer_is_told
