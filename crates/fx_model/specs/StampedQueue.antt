-- Stamps that go through a queue with its elements.
use Rattle.std.specs.Prelude.{◌≡◌, ℕ, suc, Bool, Some, List, [], ◌∷◌}
use Rattle.fx_term.specs.declared.event.Event.{Event}
use Rattle.fx_term.specs.declared.event.Event.TheVariants as event
use Rattle.fx_term.specs.declared.queue_event.QueueEvent.{QueueEvent}
use Rattle.fx_term.specs.Script.{ScriptView}
use Rattle.fx_term.specs.Queue.{QueueState, cut, replayed, queue_events, AreAlike}
use Rattle.fx_model.specs.Report.{ReportView, trace_in, capacity_of}
use Rattle.fx_model.specs.LawfulReport.{IsLawfulReport}

-- a trace with stamps in place of the values that queues take and give: at a put its own, at a get that of its cause
abbrev pub with_stamps : Event → ℕ → ℕ → Event
with_stamps (event.Put q n) t c = event.Put q t
with_stamps (event.Got q n) t c = event.Got q c
with_stamps e t c = e

abbrev pub stamped : (ℕ → ℕ) → (ℕ → ℕ) → List Event → List Event
stamped stamp cause [] = []
stamped stamp cause (e ∷ es) = with_stamps e (stamp 0) (cause 0) ∷ stamped (λ i. stamp (suc i)) (λ i. cause (suc i)) es

-- The history of a queue with stamps in place of values: it is legal too, so that a get takes the stamp which the put of its element put there, and its cut to
-- each fiber is what its trace does there
pub record IsStampedHistory (trace : ℕ → List Event) (stamp cause : ℕ → ℕ → ℕ) (q capacity : ℕ) (history : List QueueEvent) : Type 0 where
  pub stamps : List QueueEvent
  pub alike : AreAlike history stamps
  pub last : QueueState
  pub legal : replayed capacity stamps ≡ Some last
  pub cuts : (f : ℕ) → cut f stamps ≡ queue_events q f (stamped (stamp f) (cause f) (trace f))

module _ (s : ScriptView) (may : ℕ → Bool) (r : ReportView) (lawful : IsLawfulReport s may r) where
  -- the stamps go through each queue of the script
  abbrev pub AreStampedHistories : (ℕ → ℕ → ℕ) → (ℕ → ℕ → ℕ) → Type 0
  AreStampedHistories stamp cause = (q : ℕ) → IsStampedHistory (trace_in r) stamp cause q (capacity_of s q) (lawful.histories q).history
