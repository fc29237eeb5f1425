-- What is known of where the nodes of a script stand in its text.
use Rattle.std.specs.Prelude.{List, ℕ, []}
use Rattle.fx_term.specs.declared.node.Node.{Node}
use Rattle.fx_places.specs.declared.place.FormPlace.{FormPlace}
use Rattle.fx_places.specs.Places.{ArePlaces}

-- the place of each, or of none: which text does not fit its own code is not said
pub data ArePlacesOrNone (text : List ℕ) (nodes : List Node) : List FormPlace → Type 0 where
  known : {places : List FormPlace} → ArePlaces text nodes places → ArePlacesOrNone text nodes places
  unknown : ArePlacesOrNone text nodes []
