use Rattle.fx_laws.proofs.ToldApart.{closed_place_goes_on}
use Rattle.fx_laws.proofs.apart.canceled_goes_on_at_closed_places.Goals as goal

pub returns : goal.returns
returns c = closed_place_goes_on
