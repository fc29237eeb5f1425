-- What the code has of a queue, and the state that it stands for.
use Rattle.std.specs.Prelude.{◌≡◌, ℕ, ◌≤◌, suc, Bool, true, false, if◌then◌else◌, Option, Some, None, MatchOption, option_map, List, [], ◌∷◌, length, take}
use Rattle.std.specs.Prelude.{drop, unwrap_or, nat_eq, ◌==◌, ◌&&◌, slice_get}
use Rattle.std.specs.HashMap.{get}
use Rattle.fx_term.specs.declared.event.Event.{Event}
use Rattle.fx_term.specs.declared.event.Event.TheVariants as event
use Rattle.fx_term.specs.declared.item.Item.{Item}
use Rattle.fx_term.specs.Element.{Element, elements_of}
use Rattle.fx_term.specs.Queue.{Leaves, QueueState, items_of, queue_event}
use Rattle.fx_term.specs.declared.queue_event.QueueEvent.{QueueEvent}
use Rattle.fx_order.specs.declared.occurrence.Occurrence.{Occurrence}
use Rattle.fx_counts.specs.declared.at_queue.AtQueue.{AtQueue}
use Rattle.fx_counts.specs.declared.queue_so_far.QueueSoFar.{QueueSoFar}
use Rattle.fx_counts.specs.Counted.{history_in, held_after, IsPut, IsTakenPut}

-- the queue of the code is in that state
pub record IsAs (q : QueueSoFar) (s : QueueState) : Type 0 where
  pub put : s.put ≡ elements_of q.put.items
  pub within : q.taken ≤ length q.put.items
  pub items : s.items ≡ drop q.taken (elements_of q.put.items)
  pub puts : (f : ℕ) → unwrap_or (get nat_eq q.puts f) 0 ≡ length (items_of f s.put)

-- these are the same element, whatever their stamps
abbrev pub is_same : Item × Item → Bool
is_same p = p.0.fiber == p.1.fiber && p.0.nth == p.1.nth && p.0.value == p.1.value

-- it is in some state
abbrev pub IsQueue : QueueSoFar → Type 0
IsQueue q = (s : QueueState) × IsAs q s

-- the step was legal and the queue is in the state that it gave, or it was not and gave none
abbrev pub IsAfter : Bool → Option QueueState → QueueSoFar → Type 0
IsAfter true o q = (t : QueueState) × (o ≡ Some t) × IsAs q t
IsAfter false o q = o ≡ None

-- that place, if this event is a put into queue q
abbrev pub place_put : ℕ → Event → ℕ → List ℕ
place_put q (event.Put r n) place = if r == q then place ∷ [] else []
place_put q _ place = []

-- the place of the put of the front, if this event is a get from queue q
abbrev pub place_taken : ℕ → Event → QueueSoFar → Option ℕ
place_taken q (event.Got r n) now = if r == q then slice_get now.places.items now.taken else None
place_taken q _ now = None

-- what a history of queue q tells of that event of the list
abbrev pub IsTold : ℕ → ℕ → List Occurrence → ℕ → Occurrence → AtQueue → Type 0
IsTold capacity q list k x a = (held_after capacity (history_in q (take (suc k) list)) ≡ Some a.held)
    × ((e : QueueEvent) → queue_event q x.fiber x.event ≡ Some e → MatchOption a.took (IsPut e) (IsTakenPut q list k))

-- what the list has of queue q is a legal history with that rest, and of each event of the list this is what that tells; or it is none
abbrev pub IsReplay : ℕ → ℕ → List Occurrence → List Element → Option (List AtQueue) → Type 0
IsReplay capacity q list rest (Some told) = Leaves capacity (history_in q list) rest × (length told ≡ length list)
    × ((k : ℕ) (x : Occurrence) (a : AtQueue) → slice_get list k ≡ Some x → slice_get told k ≡ Some a → IsTold capacity q list k x a)
IsReplay capacity q list rest None = Leaves capacity (history_in q list) rest → ⊥

-- what is told of an event: that where it is one of the queue, and else as before
abbrev pub told_then : Option QueueEvent → Option AtQueue → Option (Option AtQueue) → Option (Option AtQueue)
told_then (Some e) a o = option_map Some a
told_then None a o = o
