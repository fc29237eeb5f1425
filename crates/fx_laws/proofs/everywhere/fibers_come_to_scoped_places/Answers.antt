use Rattle.fx_laws.proofs.ScopedPlaces.{places_are_scoped}
use Rattle.fx_laws.proofs.everywhere.fibers_come_to_scoped_places.Goals as goal

pub returns : goal.returns
returns c = places_are_scoped
