-- What is told of the events of a replay.
use Rattle.std.specs.Prelude.{ℕ, Option, Some, None, List, [], ◌∷◌, ◌++◌, replicate}
use Rattle.fx_term.specs.declared.event.Event.{Event}
use Rattle.fx_term.specs.declared.node.NodeId.{NodeId}
use Rattle.fx_text.specs.declared.position.Position.{Position}
use Rattle.fx_places.specs.declared.place.FormPlace.{FormPlace}
use Rattle.fx_plain.specs.declared.told.MadeStep.{MadeStep}
use Rattle.fx_plain.specs.declared.told.Told.{Told}
use Rattle.fx_plain.specs.declared.told.Told.TheVariants.{Step, Request, Passed}
use Rattle.fx_picture.specs.declared.stood.Stood.{Stood}
use Rattle.fx_command.specs.SoFar.{SoFarView, nothing_shown, cause_when, count_by, with_event}
use Rattle.fx_command.specs.ToldText.{node_of, stood_after, place_of}

abbrev pub position_of : Option FormPlace → Option Position
position_of None = None
position_of (Some place) = Some place.position

-- of a step whose node has this place, after what was shown so far: where the fiber stood, if it showed an event, what caused that, and how many elements its
-- queue holds after it
abbrev pub stood_when : Option FormPlace → SoFarView → MadeStep → Option Event → List Stood
stood_when place s made None = []
stood_when place s made (Some e) = record {
  fiber = made.fiber;
  position = position_of place;
  is_open = made.is_open;
  cause = cause_when s made.learned e;
  held = count_by (with_event s made.fiber e).queues e;
} ∷ []

abbrev pub stood_in : Option FormPlace → SoFarView → Told → List Stood
stood_in place s (Step made) = stood_when place s made made.event
stood_in place s (Request f) = []
stood_in place s (Passed x) = []

-- what was shown after it
abbrev pub shown_when : SoFarView → ℕ → Option Event → SoFarView
shown_when s f None = s
shown_when s f (Some e) = with_event s f e

abbrev pub shown_after : SoFarView → Told → SoFarView
shown_after s (Step made) = shown_when s made.fiber made.event
shown_after s (Request f) = s
shown_after s (Passed x) = s

-- of all that follows, where the script's nodes have these places, fibers stood last at these nodes, and this was shown so far
abbrev pub stood_from : List FormPlace → List (Option NodeId) → SoFarView → List Told → List Stood
stood_from places nodes s [] = []
stood_from places nodes s (t ∷ told) =
    stood_in (place_of places (node_of nodes t)) s t ++ stood_from places (stood_after nodes t) (shown_after s t) told

-- of a run from its beginning, where the script can have so many fibers, and has so many queues
abbrev pub stood_events : List FormPlace → ℕ → ℕ → List Told → List Stood
stood_events places fibers queues told = stood_from places (replicate fibers None) (nothing_shown fibers queues) told
