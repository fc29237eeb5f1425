-- What is told of the events of a run on threads.
use Rattle.std.specs.Prelude.{Option, List, map}
use Rattle.fx_model.specs.Report.{FiberReportView}
use Rattle.fx_order.specs.declared.occurrence.Occurrence.{Occurrence}
use Rattle.fx_counts.specs.declared.at_queue.AtQueue.{AtQueue}
use Rattle.fx_picture.specs.declared.stood.Stood.{Stood}
use Rattle.fx_places.specs.declared.place.FormPlace.{FormPlace}
use Rattle.fx_follow.specs.declared.stand.Stand.{Stand}
use Rattle.fx_run_events.specs.declared.ran_event.RanEvent.{RanEvent}
use Rattle.fx_run_events.specs.RanEvents.{last_node_stood, was_open, ran_events}
use Rattle.fx_command.specs.StoodEvents.{position_of}
use Rattle.fx_command.specs.ToldText.{place_of}

-- of an event, where the script's nodes have these places in the text
abbrev pub stood_by : List FormPlace → RanEvent → Stood
stood_by places e = record {
  fiber = e.fiber;
  position = position_of (place_of places (last_node_stood e.stand));
  is_open = was_open e.stand;
  cause = e.cause;
  held = e.held;
}

-- of all events of a run, fiber by fiber, where that is told of where the fibers stood, and of the events of that list at their queues
abbrev pub stood_of_run : List FormPlace → List (List Stand) → List Occurrence → List (Option AtQueue) → List FiberReportView → List Stood
stood_of_run places told list counts fibers = map (stood_by places) (ran_events told list counts fibers)
