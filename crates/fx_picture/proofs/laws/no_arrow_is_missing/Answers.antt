use Rattle.fx_picture.proofs.ArrowsDrawn.{none_missing}
use Rattle.fx_picture.proofs.laws.no_arrow_is_missing.Goals as goal

pub returns : goal.returns
returns c names stood handles blocked fibers list = none_missing stood fibers names handles blocked list
