-- The events of a run on threads, each with what was found of it.
use Rattle.std.specs.Prelude.{ℕ, ◌==◌, ◌-◌, Bool, true, Option, Some, None, List, [], ◌∷◌, ◌++◌, drop, slice_get, slice_index_or, if◌then◌else◌}
use Rattle.fx_term.specs.declared.event.Event.{Event}
use Rattle.fx_term.specs.declared.node.NodeId.{NodeId}
use Rattle.fx_model.specs.Report.{FiberReportView}
use Rattle.fx_order.specs.declared.occurrence.Occurrence.{Occurrence}
use Rattle.fx_counts.specs.declared.at_queue.AtQueue.{AtQueue}
use Rattle.fx_follow.specs.declared.stand.Stand.{Stand}
use Rattle.fx_run_events.specs.declared.ran_event.RanEvent.{RanEvent}
use Rattle.fx_run_events.specs.declared.sole_puts.PutAt.{PutAt}
use Rattle.fx_run_events.specs.Causes.{cause_of}
use Rattle.fx_run_events.specs.SolePuts.{known_puts}

-- the first of these counts, and none where there are none
abbrev pub first_count : List (Option AtQueue) → Option AtQueue
first_count counts = slice_index_or counts 0 None

-- how many elements a queue held by this
abbrev pub held_by : Option AtQueue → Option ℕ
held_by None = None
held_by (Some x) = Some x.held

-- those of the events of fiber f, where the first of these counts is of the first event of the list, and so on
abbrev pub counts_of : ℕ → List Occurrence → List (Option AtQueue) → List (Option AtQueue)
counts_of f [] counts = []
counts_of f (x ∷ list) counts =
    if x.fiber == f then first_count counts ∷ counts_of f list (drop 1 counts) else counts_of f list (drop 1 counts)

module _ (puts : List PutAt) (list : List Occurrence) (whole : List FiberReportView) where
  -- an event of fiber f, which stood there, and of which that is told at its queue
  abbrev pub event_of : ℕ → Option Stand → Option AtQueue → Event → RanEvent
  event_of f stand at_queue e =
      record { fiber = f; event = e; stand = stand; held = held_by at_queue; cause = cause_of puts list whole stand at_queue e }

  -- the events of fiber f, of which that is told: of the first event that is the first of these, and so on
  abbrev pub events_of : ℕ → List Stand → List (Option AtQueue) → List Event → List RanEvent
  events_of f stands counts [] = []
  events_of f stands counts (e ∷ es) =
      event_of f (slice_get stands 0) (first_count counts) e ∷ events_of f (drop 1 stands) (drop 1 counts) es

  -- those of these fibers, of which that is told, and the counts of the list
  abbrev pub events_in_turn : List (List Stand) → List (Option AtQueue) → List FiberReportView → List RanEvent
  events_in_turn told counts [] = []
  events_in_turn told counts (x ∷ fibers) =
      events_of x.id (slice_index_or told 0 []) (counts_of x.id list counts) x.trace ++ events_in_turn (drop 1 told) counts fibers

-- those of all fibers of a report, of which that is told, and the counts of that list
abbrev pub ran_events : List (List Stand) → List Occurrence → List (Option AtQueue) → List FiberReportView → List RanEvent
ran_events told list counts fibers = events_in_turn (known_puts fibers) list fibers told counts fibers

-- what is told of event i of fiber f, where this is told of all events: of each fiber in the order of its trace
abbrev pub event_told : List RanEvent → ℕ → ℕ → Option RanEvent
event_told [] f i = None
event_told (x ∷ events) f i = if x.fiber == f then (if i == 0 then Some x else event_told events f (i - 1)) else event_told events f i

-- the node at which the fiber stood, the last one until then, and whether a request would have been seen there: yes where that is not known
abbrev pub node_stood : Option Stand → Option NodeId
node_stood None = None
node_stood (Some stand) = stand.node

abbrev pub last_node_stood : Option Stand → Option NodeId
last_node_stood None = None
last_node_stood (Some stand) = stand.last_node

abbrev pub was_open : Option Stand → Bool
was_open None = true
was_open (Some stand) = stand.is_open
