-- What is left of what is told of events, where one step more is told.
use Rattle.std.proofs.Common.{◌≡◌, Option, List, ◌∷◌, ◌++◌, ◌∙◌, append_assoc}
use Rattle.fx_term.specs.declared.node.NodeId.{NodeId}
use Rattle.fx_places.specs.declared.place.FormPlace.{FormPlace}
use Rattle.fx_plain.specs.declared.told.Told.{Told}
use Rattle.fx_picture.specs.declared.stood.Stood.{Stood}
use Rattle.fx_command.specs.SoFar.{SoFarView}
use Rattle.fx_command.specs.ToldText.{node_of, stood_after, place_of}
use Rattle.fx_command.specs.StoodEvents.{stood_in, shown_after, stood_from}

pub goes_on : (places : List FormPlace) (nodes nodes' : List (Option NodeId)) (s s' : SoFarView) (rest more : List Told) (next : Told)
    (done done' whole : List Stood) (place : Option FormPlace) → rest ≡ next ∷ more → place ≡ place_of places (node_of nodes next)
    → done' ≡ done ++ stood_in place s next → nodes' ≡ stood_after nodes next → s' ≡ shown_after s next
    → done ++ stood_from places nodes s rest ≡ whole → done' ++ stood_from places nodes' s' more ≡ whole
goes_on places nodes nodes' s s' rest more next done done' whole place is placed one stands shown h =
    rw (one, placed, stands, shown) (append_assoc done _ _ ∙ (rw is at h))
