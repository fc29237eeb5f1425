-- Where nothing is told of the events of a report but what they stand on, no arrow of its picture joins other ones.
use Rattle.std.specs.Prelude.{◌≡◌, ℕ, Bool, Some, List, slice_get}
use Rattle.fx_term.specs.declared.event.Event.TheVariants as event
use Rattle.fx_term.specs.Script.{ScriptView}
use Rattle.fx_model.specs.Causes.{Needs, LeavesQueue}
use Rattle.fx_model.specs.LawfulReport.{IsLawfulReport}
use Rattle.fx_model.specs.Report.{ReportView, trace_in}
use Rattle.fx_order.specs.declared.occurrence.Occurrence.{Occurrence}
use Rattle.fx_picture.specs.declared.cause.Cause.{Cause}
use Rattle.fx_picture.specs.declared.stood.Stood.{Stood}
use Rattle.fx_picture.specs.Causes.{cause_in}
use Rattle.fx_picture.specs.IsDrawn.{Tells}

module _ (s : ScriptView) (may : ℕ → Bool) (r : ReportView) (lawful : IsLawfulReport s may r) where
  -- event y stands on event x, or it sees a request and x is one for its fiber
  pub data JoinsRightly (x y : Occurrence) : Type 0 where
    stands : Needs (trace_in r) lawful.runs.labels (LeavesQueue s may r lawful) y.fiber y.place x.fiber x.place → JoinsRightly x y
    sees : y.event ≡ event.Seen → x.event ≡ event.Request y.fiber → JoinsRightly x y

  module _ (stood : List Stood) where
    -- each cause that is told of an event is one on which that stands
    abbrev pub TellsOnly : Type 0
    TellsOnly = (f i g j : ℕ) → Tells stood f i g j → Needs (trace_in r) lawful.runs.labels (LeavesQueue s may r lawful) f i g j

    -- of two events of the report that an arrow joins
    abbrev pub DrawsOnly : Type 0
    DrawsOnly =
        (x y : Occurrence) (cause : Cause) → slice_get (trace_in r x.fiber) x.place ≡ Some x.event → slice_get (trace_in r y.fiber) y.place ≡ Some y.event
        → cause_in stood x y ≡ Some cause → JoinsRightly x y
