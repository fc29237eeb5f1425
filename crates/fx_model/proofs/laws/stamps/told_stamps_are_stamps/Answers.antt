use Rattle.fx_model.proofs.ToldStamps.{told_is_stamped}
use Rattle.fx_model.proofs.laws.stamps.told_stamps_are_stamps.Goals as goal

pub returns : goal.returns
returns c = told_is_stamped
