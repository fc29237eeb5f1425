-- What a lawful report says, of each fiber that has ended and of each queue.
use Rattle.std.specs.Prelude.{◌≡◌, ℕ, Bool, true, Some, None, List, ◌++◌}
use Rattle.fx_term.specs.declared.outcome.Outcome.{Outcome}
use Rattle.fx_term.specs.declared.event.Event.{Event}
use Rattle.fx_term.specs.declared.queue_event.QueueEvent.{QueueEvent}
use Rattle.fx_term.specs.Script.{ScriptView}
use Rattle.fx_term.specs.Queue.{QueueState, replayed, items_taken, items_of, cut, queue_events, accepted_offers}
use Rattle.fx_model.specs.Step.{Runs}
use Rattle.fx_model.specs.Run.{first_counts}
use Rattle.fx_model.specs.Balanced.{IsBalanced}
use Rattle.fx_model.specs.PairedMasks.{CancelsWhereOpened}
use Rattle.fx_model.specs.Report.{FiberReportView, ReportView, fiber_in, trace_in, left_in, capacity_of, outcome_shown}
use Rattle.fx_model.specs.LawfulReport.{HasRuns, EndsWith, IsLawfulReport}

-- One order of the events of a queue, which keeps each fiber's own and leaves what is left; its takes, then what is left, cut to one fiber's offers, are that
-- fiber's accepted offers, each once
pub record EachOfferOnce (r : ReportView) (q capacity : ℕ) : Type 0 where
  pub history : List QueueEvent
  pub last : QueueState
  pub legal : replayed capacity history ≡ Some last
  pub rest_is : last.items ≡ left_in r q
  pub orders : (f : ℕ) → cut f history ≡ queue_events q f (trace_in r f)
  pub offers : (f : ℕ) → items_of f (items_taken last ++ left_in r q) ≡ accepted_offers q f (trace_in r f)

-- a trace stops at that outcome: it ends with it, and tells none before
pub record StopsAt (trace : List Event) (o : Outcome) : Type 0 where
  pub ends : EndsWith trace o
  pub no_other : outcome_shown ends.before ≡ None

-- the fiber's trace stops at its outcome, and what it acquired was released, each once and inner before outer
pub record EndsBalanced (trace : List Event) : Type 0 where
  pub outcome : Outcome
  pub stops : StopsAt trace outcome
  pub balanced : IsBalanced trace

-- each queue's offers are accounted for, whether the fibers have ended or not; the trace of each fiber that has ended does so balanced; and cancellation acted
-- only where each mask round it was opened by its poll
pub record HoldsWhatIsPromised (s : ScriptView) (r : ReportView) (runs : HasRuns s r) : Type 0 where
  pub queues : (q : ℕ) → EachOfferOnce r q (capacity_of s q)
  pub ends : (f : ℕ) (x : FiberReportView) → fiber_in r f ≡ Some x → x.has_ended ≡ true → EndsBalanced x.trace
  pub opened : (f : ℕ) (x : FiberReportView) (at : fiber_in r f ≡ Some x)
      → CancelsWhereOpened (first_counts (runs.origin f)) (Runs (runs.origin f).term) (runs.labels f) (runs.counts f) (runs.progress f) (runs.run f x at).run

-- a lawful report that holds what is promised
pub record KeepsWhatIsPromised (s : ScriptView) (may : ℕ → Bool) (r : ReportView) : Type 0 where
  pub lawful : IsLawfulReport s may r
  pub promised : HoldsWhatIsPromised s r lawful.runs
