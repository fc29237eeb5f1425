-- Which names the fibers of a run have.
use Rattle.std.specs.Prelude.{◌≡◌, ℕ, Option, Some, None, List, [], ◌∷◌, ◌++◌}
use Rattle.std.specs.List.{flat_map}
use Rattle.fx_term.specs.declared.event.Event.{Event}
use Rattle.fx_term.specs.declared.event.Event.TheVariants as event
use Rattle.fx_places.specs.declared.place.FormPlace.{FormPlace}
use Rattle.fx_places.specs.Handle.{handle_of}
use Rattle.fx_plain.specs.declared.told.MadeStep.{MadeStep}
use Rattle.fx_plain.specs.declared.told.Told.{Told}
use Rattle.fx_plain.specs.declared.told.Told.TheVariants.{Step, Request, Passed}
use Rattle.fx_model.specs.Report.{FiberReportView}
use Rattle.fx_order.specs.declared.occurrence.Occurrence.{Occurrence}
use Rattle.fx_counts.specs.declared.at_queue.AtQueue.{AtQueue}
use Rattle.fx_follow.specs.declared.stand.Stand.{Stand}
use Rattle.fx_picture.specs.Handles.{Named}
use Rattle.fx_run_events.specs.declared.ran_event.RanEvent.{RanEvent}
use Rattle.fx_run_events.specs.RanEvents.{ran_events, node_stood}
use Rattle.fx_command.specs.ToldText.{place_of}

-- fiber f with this name, if that is one
abbrev pub one_named : ℕ → Option (List ℕ) → List Named
one_named f None = []
one_named f (Some name) = record { fiber = f; name = name } ∷ []

-- a fiber that is started at this place of the text, with the name of the handle there
abbrev pub named_by : List ℕ → Option FormPlace → Option Event → List Named
named_by source (Some place) (Some (event.Start f)) = one_named f (handle_of source place)
named_by source _ _ = []

-- where the script's nodes have these places in the text
abbrev pub named_in : List ℕ → List FormPlace → Told → List Named
named_in source places (Step made) = named_by source (place_of places made.node) made.event
named_in source places (Request f) = []
named_in source places (Passed x) = []

-- all that are told to be started, of a replay
abbrev pub named_told : List ℕ → List FormPlace → List Told → List Named
named_told source places [] = []
named_told source places (t ∷ told) = named_in source places t ++ named_told source places told

-- the fiber that an event of a run on threads starts
abbrev pub named_at : List ℕ → List FormPlace → RanEvent → List Named
named_at source places e = named_by source (place_of places (node_stood e.stand)) (Some e.event)

-- all that are started by such a run, of which that is told
abbrev pub named_of_run : List ℕ → List FormPlace → List (List Stand) → List Occurrence → List (Option AtQueue) → List FiberReportView → List Named
named_of_run source places told list counts fibers = flat_map (named_at source places) (ran_events told list counts fibers)

-- this name of fiber g is that which the text has at the place of a step that starts the fiber
pub record IsNamedBy (source : List ℕ) (places : List FormPlace) (told : List Told) (g : ℕ) (name : List ℕ) : Type 0 where
  pub before : List Told
  pub after : List Told
  pub made : MadeStep
  pub place : FormPlace
  pub is : told ≡ before ++ Step made ∷ after
  pub starts : made.event ≡ Some (event.Start g)
  pub placed : place_of places made.node ≡ Some place
  pub named : handle_of source place ≡ Some name
