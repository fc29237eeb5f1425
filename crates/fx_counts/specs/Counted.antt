-- How many elements a queue held after the events of a list, and which put each get took, by what the list has of it, where that is a legal history.
use Rattle.std.specs.Prelude.{◌≡◌, ℕ, suc, ◌+◌, ◌<◌, Option, Some, option_map, MatchOption, List, [], ◌∷◌, length, take, slice_get, slice_index}
use Rattle.std.specs.List.{filter_map}
use Rattle.fx_term.specs.declared.event.Event.{Event}
use Rattle.fx_term.specs.declared.event.Event.TheVariants as event
use Rattle.fx_term.specs.declared.queue_event.QueueEvent.{QueueEvent}
use Rattle.fx_term.specs.declared.queue_event.QueueEvent.TheVariants.{Put, Got}
use Rattle.fx_term.specs.Queue.{Leaves, QueueState, puts, queue_event, replayed}
use Rattle.fx_model.specs.Report.{ReportView, left_in}
use Rattle.fx_order.specs.declared.occurrence.Occurrence.{Occurrence}
use Rattle.fx_counts.specs.declared.at_queue.AtQueue.{AtQueue}

-- what the list has of queue q, in its order
abbrev pub history_in : ℕ → List Occurrence → List QueueEvent
history_in q list = filter_map (λ (x : Occurrence). queue_event q x.fiber x.event) list

-- it is a legal history of that queue of the report, where queues have these capacities, and what is left is its rest
abbrev pub IsHistory : List ℕ → ReportView → List Occurrence → ℕ → Type 0
IsHistory capacities r list q = Leaves (slice_index capacities q) (history_in q list) (left_in r q)

-- how many elements a queue of that capacity holds after that history, if it is legal
abbrev pub held_after : ℕ → List QueueEvent → Option ℕ
held_after capacity h = option_map (λ (s : QueueState). length s.items) (replayed capacity h)

-- how many of the events are gets
abbrev pub gets : List QueueEvent → ℕ
gets [] = 0
gets (Put f n ∷ h) = gets h
gets (Got f n ∷ h) = gets h + 1

abbrev pub IsPut : QueueEvent → Type 0
IsPut (Put f n) = Unit {0}
IsPut (Got f n) = ⊥

abbrev pub event_at : List Occurrence → ℕ → Option Event
event_at list k = option_map (λ (x : Occurrence). x.event) (slice_get list k)

-- Event k of the list is a get from queue q, and event j, before it, is the put of what it took: a queue is first in, first out, so as many puts there come
-- before that put as gets before that get
pub record IsTakenPut (q : ℕ) (list : List Occurrence) (k j : ℕ) : Type 0 where
  pub value : ℕ
  pub got : event_at list k ≡ Some (event.Got q value)
  pub put : event_at list j ≡ Some (event.Put q value)
  pub before : j < k
  pub nth : puts (history_in q (take j list)) ≡ gets (history_in q (take k list))

-- Of each event of the list something is told just where it is a put into a queue or a get from there of which the list has a history. That is how many
-- elements the queue holds after what the history has up to this event, and of each get, and of no put, which put it took
pub record AreCounted (capacities : List ℕ) (r : ReportView) (list : List Occurrence) (counts : List (Option AtQueue)) : Type 0 where
  pub as_many : length counts ≡ length list
  pub told : (k : ℕ) (a : AtQueue) (x : Occurrence) → slice_get list k ≡ Some x → slice_get counts k ≡ Some (Some a)
      → (q : ℕ) × (e : QueueEvent) × (queue_event q x.fiber x.event ≡ Some e) × IsHistory capacities r list q
      × (held_after (slice_index capacities q) (history_in q (take (suc k) list)) ≡ Some a.held)
      × MatchOption a.took (IsPut e) (IsTakenPut q list k)
  pub each : (k q : ℕ) (x : Occurrence) (e : QueueEvent) → slice_get list k ≡ Some x → queue_event q x.fiber x.event ≡ Some e
      → IsHistory capacities r list q → (a : AtQueue) × (slice_get counts k ≡ Some (Some a))
