-- What is told at its queue of an event of a run on threads is what is told of that event in a list of all events.
use Rattle.std.specs.Prelude.{◌≡◌, ℕ, Option, Some, None, List, slice_get, slice_index_or}
use Rattle.fx_term.specs.declared.event.Event.{Event}
use Rattle.fx_order.specs.declared.occurrence.Occurrence.{Occurrence}
use Rattle.fx_counts.specs.declared.at_queue.AtQueue.{AtQueue}
use Rattle.fx_picture.specs.declared.stood.Stood.{Stood}
use Rattle.fx_picture.specs.Stood.{stood_at}
use Rattle.fx_run_events.specs.RanEvents.{held_by}

-- Event i of fiber f is this. It stands at that place of the list, and how many elements its queue is told to hold is what is told there
pub record IsHeldSo (stood : List Stood) (list : List Occurrence) (counts : List (Option AtQueue)) (f i : ℕ) (e : Event) : Type 0 where
  pub at : ℕ
  pub stamp : ℕ
  pub stands : slice_get list at ≡ Some (record { fiber = f; place = i; event = e; stamp = stamp })
  pub told : Stood
  pub told_so : stood_at stood f i ≡ Some told
  pub held : told.held ≡ held_by (slice_index_or counts at None)
