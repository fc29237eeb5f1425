-- What is told of an event of a run on threads is where a run of its fiber stood before the step that showed it.
use Rattle.std.specs.Prelude.{◌≡◌, ℕ, Some, None, List, ◌∷◌, ◌++◌}
use Rattle.fx_term.specs.declared.event.Event.{Event}
use Rattle.fx_term.specs.declared.event.Event.TheVariants as event
use Rattle.fx_term.specs.declared.node.Node.{Node}
use Rattle.fx_term.specs.Lists.{Among}
use Rattle.fx_places.specs.declared.place.FormPlace.{FormPlace}
use Rattle.fx_places.specs.Handle.{handle_of}
use Rattle.fx_model.specs.Run.{first_counts}
use Rattle.fx_model.specs.Step.{Runs}
use Rattle.fx_follow.specs.declared.stand.Stand.{Stand}
use Rattle.fx_follow.specs.ShowsFrom.{ShowsFrom}
use Rattle.fx_follow.specs.Followed.{FiberRun}
use Rattle.fx_picture.specs.declared.stood.Stood.{Stood}
use Rattle.fx_picture.specs.Stood.{stood_at}
use Rattle.fx_run_events.specs.declared.ran_event.RanEvent.{RanEvent}
use Rattle.fx_run_events.specs.RanEvents.{node_stood}
use Rattle.fx_command.specs.StoodEvents.{position_of}
use Rattle.fx_command.specs.ToldText.{place_of}

-- Event i of fiber f is this. The fiber has one of these runs, and what is told of the event is where the fiber stood in that before the step which showed it:
-- whether the place was open, and where the last node stands in the text at which it stood until then
pub record IsStoodOf (nodes : List Node) (places : List FormPlace) (runs : List FiberRun) (list : List Stood) (f i : ℕ) (e : Event) : Type 0 where
  pub run : FiberRun
  pub among : Among run runs
  pub number : run.number ≡ f
  pub stand : Stand
  pub shown : ShowsFrom nodes (first_counts run.origin) (Runs run.origin.term) None run.labels i e stand run.counts run.progress
  pub stood : Stood
  pub told_so : stood_at list f i ≡ Some stood
  pub is_open : stood.is_open ≡ stand.is_open
  pub position : stood.position ≡ position_of (place_of places stand.last_node)

-- this name of fiber g is that which the text has at the place where a fiber stood before it started the fiber
pub record IsNamedIn (source : List ℕ) (places : List FormPlace) (list : List RanEvent) (g : ℕ) (name : List ℕ) : Type 0 where
  pub before : List RanEvent
  pub after : List RanEvent
  pub started : RanEvent
  pub place : FormPlace
  pub is : list ≡ before ++ started ∷ after
  pub starts : started.event ≡ event.Start g
  pub placed : place_of places (node_stood started.stand) ≡ Some place
  pub named : handle_of source place ≡ Some name
