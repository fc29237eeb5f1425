use Rattle.fx_picture.proofs.WellFormed.{is_document}
use Rattle.fx_picture.proofs.laws.picture_is_well_formed.Goals as goal

pub returns : goal.returns
returns c = is_document
