-- The stamps of the whole machine's events.
use Rattle.std.specs.Prelude.{ℕ, List, [], ◌∷◌, ◌++◌, drop, max}
use Rattle.fx_term.specs.declared.event.Event.TheVariants as event
use Rattle.fx_term.specs.Maps.{with_at}
use Rattle.fx_model.specs.Row.{Label, Shows, Learns, Starts}
use Rattle.fx_fiber.specs.StampedRun.{next_stamp, last_of, stamp_of_event}

-- Of the fibers by number: the stamp that each began with, those of its trace, the greatest of the requests for it that fibers made, or 0, and that of its end;
-- and of the queues by number, from front to back, those of the puts of the elements
pub record MachineStamps : Type 0 where
  pub began : ℕ → ℕ
  pub trace : ℕ → List ℕ
  pub asked : ℕ → ℕ
  pub ended : ℕ → ℕ
  pub queues : ℕ → List ℕ

-- those before any step
abbrev pub no_stamps : MachineStamps
no_stamps = record { began = λ f. 0; trace = λ f. []; asked = λ f. 0; ended = λ f. 0; queues = λ q. [] }

-- the stamp at the front; none is 0
abbrev pub front_stamp : List ℕ → ℕ
front_stamp [] = 0
front_stamp (t ∷ ts) = t

-- the stamp of the cause of what a step of fiber f with this label shows: of what is learnt that of the end, of what is taken that of the put, and of a
-- request that is seen the greatest so far
abbrev pub cause_of : MachineStamps → ℕ → Label → ℕ
cause_of m f (Learns g o e) = m.ended g
cause_of m f (Shows (event.Got q n)) = front_stamp (m.queues q)
cause_of m f (Shows event.Seen) = m.asked f
cause_of m f _ = 0

-- the stamp of what that step shows
abbrev pub stamp_of : MachineStamps → ℕ → Label → ℕ
stamp_of m f l = next_stamp (last_of (m.began f) (m.trace f)) (cause_of m f l)

-- what a step of fiber f with this label and this stamp leaves: what the fiber that it starts begins with, and what its request, its end, its put and its take
-- change
abbrev pub began_after : Label → ℕ → (ℕ → ℕ) → ℕ → ℕ
began_after (Starts g b) t began = with_at g t began
began_after _ t began = began

abbrev pub asked_after : Label → ℕ → (ℕ → ℕ) → ℕ → ℕ
asked_after (Shows (event.Request g)) t asked = with_at g (max t (asked g)) asked
asked_after _ t asked = asked

abbrev pub ended_after : ℕ → Label → ℕ → (ℕ → ℕ) → ℕ → ℕ
ended_after f (Shows (event.Ended o)) t ended = with_at f t ended
ended_after f _ t ended = ended

abbrev pub put_after : Label → ℕ → (ℕ → List ℕ) → ℕ → List ℕ
put_after (Shows (event.Put q n)) t queues = with_at q (queues q ++ t ∷ []) queues
put_after (Shows (event.Got q n)) t queues = with_at q (drop 1 (queues q)) queues
put_after _ t queues = queues

-- the stamps after that step
abbrev pub stamps_after : MachineStamps → ℕ → Label → MachineStamps
stamps_after m f l = record {
  began = began_after l (stamp_of m f l) m.began;
  trace = with_at f (m.trace f ++ stamp_of_event (stamp_of m f l) l) m.trace;
  asked = asked_after l (stamp_of m f l) m.asked;
  ended = ended_after f l (stamp_of m f l) m.ended;
  queues = put_after l (stamp_of m f l) m.queues;
}
