-- What is told of a run on threads as the causes of its events is what these stand on.
use Rattle.std.specs.Prelude.{◌≡◌, ℕ, ◌⊎◌, Bool, true, Option, Some, None, is_some, List, slice_get}
use Rattle.fx_term.specs.declared.event.Event.TheVariants as event
use Rattle.fx_term.specs.declared.node.Node.{Node}
use Rattle.fx_term.specs.Script.{ScriptView}
use Rattle.fx_model.specs.Causes.{TakesWhatWasPut, LearnsOfEnd, Needs, LeavesQueue}
use Rattle.fx_model.specs.LawfulReport.{IsLawfulReport}
use Rattle.fx_model.specs.Report.{ReportView, trace_in}
use Rattle.fx_order.specs.declared.occurrence.Occurrence.{Occurrence}
use Rattle.fx_counts.specs.Counted.{IsHistory}
use Rattle.fx_follow.specs.declared.stand.Stand.{Stand}
use Rattle.fx_follow.specs.Followed.{AreFollowed}
use Rattle.fx_picture.specs.declared.stood.EventAt.{EventAt}
use Rattle.fx_run_events.specs.declared.ran_event.RanEvent.{RanEvent}
use Rattle.fx_run_events.specs.Found.{IsInOwnOrder}
use Rattle.fx_run_events.specs.RanEvents.{event_told}
use Rattle.fx_run_events.specs.SolePuts.{known_puts, sole_put}

abbrev pub cause_told : Option RanEvent → Option EventAt
cause_told None = None
cause_told (Some x) = x.cause

-- it is told that event j of fiber g caused event i of fiber f
abbrev pub TellsCause : List RanEvent → ℕ → ℕ → ℕ → ℕ → Type 0
TellsCause events f i g j = cause_told (event_told events f i) ≡ Some (record { fiber = g; place = j })

-- it is known which put a get of that value from queue q took an element of: the list has all events, each fiber's in their own order, and a history of the
-- queue, where queues have these capacities; or one put alone put that value there
abbrev pub IsPutKnown : List ℕ → ReportView → List Occurrence → ℕ → ℕ → Type 0
IsPutKnown capacities r list q v = (IsInOwnOrder r list × IsHistory capacities r list q) ⊎ (is_some (sole_put q v (known_puts r.fibers)) ≡ true)

-- By one choice of runs and histories that make the report lawful: an event stands on each cause that is told of it; of a get, the put of what it took is told
-- where it is known; and of the first of two, the end of which it learnt, where it was found how the fibers stood
pub record TellsCausesOfRun (nodes : List Node) (s : ScriptView) (may : ℕ → Bool) (r : ReportView) (told : List (List Stand)) (list : List Occurrence)
    (events : List RanEvent) : Type 0 where
  pub lawful : IsLawfulReport s may r
  pub only : (f i g j : ℕ) → TellsCause events f i g j → Needs (trace_in r) lawful.runs.labels (LeavesQueue s may r lawful) f i g j
  pub puts : (f i g j : ℕ) → (so : TakesWhatWasPut (trace_in r) (LeavesQueue s may r lawful) f i g j)
      → IsPutKnown s.capacities r list so.queue so.value → TellsCause events f i g j
  pub ends : AreFollowed nodes s r told → (f i side g j : ℕ) → slice_get (trace_in r f) i ≡ Some (event.First side)
      → LearnsOfEnd (trace_in r) lawful.runs.labels f i g j → TellsCause events f i g j
