-- What is told as the cause of an event of a run, where its own words do not name that.
use Rattle.std.specs.Prelude.{ℕ, ◌==◌, Option, Some, None, option_and_then, option_map, List, [], ◌∷◌, length, slice_get}
use Rattle.std.specs.List.{find}
use Rattle.fx_term.specs.declared.event.Event.{Event}
use Rattle.fx_term.specs.declared.event.Event.TheVariants as event
use Rattle.fx_model.specs.Report.{FiberReportView, trace_of_report}
use Rattle.fx_order.specs.declared.occurrence.Occurrence.{Occurrence}
use Rattle.fx_counts.specs.declared.at_queue.AtQueue.{AtQueue}
use Rattle.fx_follow.specs.declared.stand.Stand.{Stand}
use Rattle.fx_picture.specs.declared.stood.EventAt.{EventAt}
use Rattle.fx_run_events.specs.declared.sole_puts.PutAt.{PutAt}
use Rattle.fx_run_events.specs.SolePuts.{sole_put}

-- which event of its fiber occurrence j of the list is
abbrev pub event_there : List Occurrence → ℕ → Option EventAt
event_there list j = option_map (λ (x : Occurrence). record { fiber = x.fiber; place = x.place }) (slice_get list j)

-- the put that a history has a get take, where that is told
abbrev pub taken_put : List Occurrence → Option AtQueue → Option EventAt
taken_put list None = None
taken_put list (Some x) = option_and_then (event_there list) x.took

-- the last event of fiber g with this trace
abbrev pub last_place : ℕ → List Event → Option EventAt
last_place g [] = None
last_place g (e ∷ es) = Some (record { fiber = g; place = length es })

-- the last event of fiber g, if it is one of these and has shown any
abbrev pub last_event : List FiberReportView → ℕ → Option EventAt
last_event fibers g = last_place g (trace_of_report (find (λ (x : FiberReportView). x.id == g) fibers))

-- the fiber of whose end a step learnt that was made there
abbrev pub learned_stood : Option Stand → Option ℕ
learned_stood None = None
learned_stood (Some stand) = stand.learned

-- the first of two, if it is there
abbrev pub or_else : Option EventAt → Option EventAt → Option EventAt
or_else (Some x) y = Some x
or_else None y = y

-- where these are the puts that are looked through, a history is told of this list, and the report has these fibers: what caused this event, before which its
-- fiber stood there and of which that is told at its queue
abbrev pub cause_of : List PutAt → List Occurrence → List FiberReportView → Option Stand → Option AtQueue → Event → Option EventAt
cause_of puts list fibers stand at_queue (event.Got q v) = or_else (taken_put list at_queue) (sole_put q v puts)
cause_of puts list fibers stand at_queue (event.First side) = option_and_then (last_event fibers) (learned_stood stand)
cause_of puts list fibers stand at_queue _ = None
