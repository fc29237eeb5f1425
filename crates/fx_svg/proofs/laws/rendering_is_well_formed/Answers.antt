use Rattle.fx_svg.proofs.WellFormedTexts.{well_formed}
use Rattle.fx_svg.proofs.laws.rendering_is_well_formed.Goals as goal

pub returns : goal.returns
returns c = well_formed
