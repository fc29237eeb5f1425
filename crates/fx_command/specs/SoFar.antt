-- What a run has shown so far, as it is told: how many events each fiber, and whose puts each queue holds.
use Rattle.std.specs.Prelude.{ℕ, suc, ◌-◌, ◌==◌, if◌then◌else◌, Option, Some, None, option_and_then, List, [], ◌∷◌, ◌++◌, length, drop, replicate}
use Rattle.std.specs.Prelude.{slice_set, slice_index_or}
use Rattle.fx_term.specs.declared.event.Event.{Event}
use Rattle.fx_term.specs.declared.event.Event.TheVariants as event
use Rattle.fx_picture.specs.declared.stood.EventAt.{EventAt}

-- by the number of a fiber, and by that of a queue, from front to back
pub record SoFarView : Type 0 where
  pub shown : List ℕ
  pub queues : List (List EventAt)

-- nothing, of so many fibers and queues
abbrev pub nothing_shown : ℕ → ℕ → SoFarView
nothing_shown fibers queues = record { shown = replicate fibers 0; queues = replicate queues [] }

-- the next event of fiber f
abbrev pub next_of : SoFarView → ℕ → EventAt
next_of s f = record { fiber = f; place = slice_index_or s.shown f 0 }

-- the puts that queue q holds, and the first of these
abbrev pub held_in : List (List EventAt) → ℕ → List EventAt
held_in queues q = slice_index_or queues q []

abbrev pub front_of : List EventAt → Option EventAt
front_of [] = None
front_of (x ∷ xs) = Some x

-- the event that causes this one, if it is a get: the put whose element is the front of its queue
abbrev pub cause_by : List (List EventAt) → Event → Option EventAt
cause_by queues (event.Got q v) = front_of (held_in queues q)
cause_by queues _ = None

-- the last event that fiber f has shown, if it has shown one
abbrev pub last_of : List ℕ → ℕ → Option EventAt
last_of shown f =
    if slice_index_or shown f 0 == 0 then None
    else Some (record { fiber = f; place = slice_index_or shown f 0 - 1 })

-- the event that causes this one, of a step that learned of this fiber's end, if it learned of one: what a `first` has found is the last event of that fiber
abbrev pub cause_when : SoFarView → Option ℕ → Event → Option EventAt
cause_when s learned (event.First side) = option_and_then (last_of s.shown) learned
cause_when s learned e = cause_by s.queues e

-- the queues after this event, which is that one of the run
abbrev pub queues_after : EventAt → Event → List (List EventAt) → List (List EventAt)
queues_after x (event.Put q v) queues = slice_set queues q (held_in queues q ++ x ∷ [])
queues_after x (event.Got q v) queues = slice_set queues q (drop 1 (held_in queues q))
queues_after x _ queues = queues

-- how many elements the queue holds that this event is at
abbrev pub count_by : List (List EventAt) → Event → Option ℕ
count_by queues (event.Put q v) = Some (length (held_in queues q))
count_by queues (event.Got q v) = Some (length (held_in queues q))
count_by queues (event.Refused q) = Some (length (held_in queues q))
count_by queues (event.Empty q) = Some (length (held_in queues q))
count_by queues _ = None

-- with this event of fiber f
abbrev pub with_event : SoFarView → ℕ → Event → SoFarView
with_event s f e = record {
  shown = slice_set s.shown f (suc (next_of s f).place);
  queues = queues_after (next_of s f) e s.queues;
}
