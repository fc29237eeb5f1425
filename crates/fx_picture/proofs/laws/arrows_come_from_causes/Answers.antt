use Rattle.fx_picture.proofs.ArrowsStand.{draws_only}
use Rattle.fx_picture.proofs.laws.arrows_come_from_causes.Goals as goal

pub returns : goal.returns
returns c = draws_only
