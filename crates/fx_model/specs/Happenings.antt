-- All events of a report in one list, as they happened.
use Rattle.std.specs.Prelude.{◌≡◌, ℕ, ◌==◌, Bool, if◌then◌else◌, Option, Some, None, List, slice_get}
use Rattle.std.specs.List.{filter_map}
use Rattle.fx_term.specs.declared.event.Event.{Event}
use Rattle.fx_term.specs.declared.queue_event.QueueEvent.{QueueEvent}
use Rattle.fx_term.specs.Queue.{queue_event}
use Rattle.fx_term.specs.Script.{ScriptView}
use Rattle.fx_model.specs.Report.{ReportView, trace_in}
use Rattle.fx_model.specs.Causes.{IsLawfulInOneOrder}

-- an event, and the fiber that showed it
pub record Happening : Type 0 where
  pub fiber : ℕ
  pub event : Event

abbrev pub event_of : ℕ → Happening → Option Event
event_of f h = if h.fiber == f then Some h.event else None

-- the events of fiber f
abbrev pub events_of : ℕ → List Happening → List Event
events_of f hs = filter_map (event_of f) hs

-- what happened to queue q
abbrev pub history_of : ℕ → List Happening → List QueueEvent
history_of q hs = filter_map (λ (h : Happening). queue_event q h.fiber h.event) hs

-- the list, cut to a fiber, is the fiber's trace; cut to a queue, the queue's history; and the place of each event in it is the event's moment
pub record IsListed (trace : ℕ → List Event) (history : ℕ → List QueueEvent) (moment : ℕ → ℕ → ℕ) (list : List Happening) : Type 0 where
  pub traces : (f : ℕ) → events_of f list ≡ trace f
  pub histories : (q : ℕ) → history_of q list ≡ history q
  pub moments : (f i : ℕ) (e : Event) → slice_get (trace f) i ≡ Some e → slice_get list (moment f i) ≡ Some (record { fiber = f; event = e })

-- A report that is lawful by runs and histories whose events stand in one list, in which causes come first. The events of one thread do; of several, the
-- histories of two queues need not fit into one list
pub record IsLawfulInOneList (s : ScriptView) (may : ℕ → Bool) (r : ReportView) : Type 0 where
  pub in_order : IsLawfulInOneOrder s may r
  pub list : List Happening
  pub listed : IsListed (trace_in r) (λ q. (in_order.lawful.histories q).history) in_order.causes.moment list
