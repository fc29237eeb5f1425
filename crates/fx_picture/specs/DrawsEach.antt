-- Where enough is told of the events of a report, its picture leaves out no cause.
use Rattle.std.specs.Prelude.{◌≡◌, ℕ, Bool, Some, List, slice_get}
use Rattle.fx_term.specs.declared.event.Event.{Event}
use Rattle.fx_term.specs.declared.event.Event.TheVariants as event
use Rattle.fx_term.specs.Script.{ScriptView}
use Rattle.fx_model.specs.Causes.{TakesWhatWasPut, LearnsOfEnd, Needs, LeavesQueue}
use Rattle.fx_model.specs.LawfulReport.{IsLawfulReport}
use Rattle.fx_model.specs.Report.{ReportView, trace_in}
use Rattle.fx_order.specs.declared.occurrence.Occurrence.{Occurrence}
use Rattle.fx_order.specs.CausalOrder.{IsCausalOrder}
use Rattle.fx_report.specs.declared.blocked.Blocked.{Blocked}
use Rattle.fx_picture.specs.declared.stood.Stood.{Stood}
use Rattle.fx_picture.specs.Handles.{Named}
use Rattle.fx_picture.specs.IsDrawn.{Tells, IsDrawn}

module _ (s : ScriptView) (may : ℕ → Bool) (r : ReportView) (lawful : IsLawfulReport s may r) (stood : List Stood) where
  -- the put of what a get took is told as its cause, and so is of a first of two the end of which it learnt
  pub record TellsEach : Type 0 where
    pub puts : (f i g j : ℕ) → TakesWhatWasPut (trace_in r) (LeavesQueue s may r lawful) f i g j → Tells stood f i g j
    pub ends : (f i side g j : ℕ) → slice_get (trace_in r f) i ≡ Some (event.First side) → LearnsOfEnd (trace_in r) lawful.runs.labels f i g j
        → Tells stood f i g j

  -- in each picture of it, where the list is an order in which causes come first, there is an arrow to each event from each on which that stands
  abbrev pub DrawsEach : Type 0
  DrawsEach =
      (list : List Occurrence) → IsCausalOrder s may r lawful list → (names : List (List ℕ)) (handles : List Named) (blocked : List Blocked) (f i g j : ℕ)
      (e : Event) → slice_get (trace_in r f) i ≡ Some e → Needs (trace_in r) lawful.runs.labels (LeavesQueue s may r lawful) f i g j
      → IsDrawn names stood handles blocked r list f i g j
