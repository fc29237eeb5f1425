-- What is told of an event of a replay is told of the step that showed it.
use Rattle.std.specs.Prelude.{◌≡◌, ℕ, ◌==◌, if◌then◌else◌, Option, Some, None, List, [], ◌∷◌, ◌++◌, slice_get}
use Rattle.fx_term.specs.declared.event.Event.{Event}
use Rattle.fx_term.specs.declared.node.NodeId.{NodeId}
use Rattle.fx_places.specs.declared.place.FormPlace.{FormPlace}
use Rattle.fx_plain.specs.declared.told.MadeStep.{MadeStep}
use Rattle.fx_plain.specs.declared.told.Told.{Told}
use Rattle.fx_plain.specs.declared.told.Told.TheVariants.{Step, Request, Passed}
use Rattle.fx_picture.specs.declared.stood.Stood.{Stood}
use Rattle.fx_picture.specs.Stood.{stood_at}
use Rattle.fx_command.specs.ToldText.{place_of}
use Rattle.fx_command.specs.StoodEvents.{position_of}

abbrev pub one_step : MadeStep → Option Event → List MadeStep
one_step made None = []
one_step made (Some e) = made ∷ []

-- the steps of fiber f that show an event
abbrev pub steps_of : ℕ → List Told → List MadeStep
steps_of f [] = []
steps_of f (Step made ∷ told) = (if made.fiber == f then one_step made made.event else []) ++ steps_of f told
steps_of f (Request g ∷ told) = steps_of f told
steps_of f (Passed x ∷ told) = steps_of f told

-- Event i of fiber f is this: it is shown by step i of those of the fiber that show one, and what is told of event i is where the fiber stood at that step. If
-- that is at a node, the place is that of the node
pub record IsToldOf (places : List FormPlace) (told : List Told) (list : List Stood) (f i : ℕ) (e : Event) : Type 0 where
  pub made : MadeStep
  pub step : slice_get (steps_of f told) i ≡ Some made
  pub shows : made.event ≡ Some e
  pub stood : Stood
  pub told_so : stood_at list f i ≡ Some stood
  pub is_open : stood.is_open ≡ made.is_open
  pub position : (id : NodeId) → made.node ≡ Some id → stood.position ≡ position_of (place_of places (Some id))
