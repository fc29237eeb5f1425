use Rattle.fx_picture.proofs.Masked.{masked}
use Rattle.fx_picture.proofs.laws.closed_places_have_bars.Goals as goal

pub returns : goal.returns
returns c = masked
