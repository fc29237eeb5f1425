-- A list of the events of a report in which causes come first.
use Rattle.std.specs.Prelude.{◌≡◌, ℕ, Bool, Some, List, slice_get, Contains}
use Rattle.fx_term.specs.declared.event.Event.{Event}
use Rattle.fx_term.specs.Script.{ScriptView}
use Rattle.fx_model.specs.Report.{ReportView, trace_in}
use Rattle.fx_model.specs.LawfulReport.{IsLawfulReport}
use Rattle.fx_model.specs.Causes.{LeavesQueue, IsOneOrder}
use Rattle.fx_model.specs.Stamps.{IsBelowTop}
use Rattle.fx_model.specs.ReportStamps.{stamp_in, IsStampedReport}
use Rattle.fx_order.specs.declared.occurrence.Occurrence.{Occurrence}

-- Each event of the report stands in the list, and its place there is its moment in one order of all events, in which causes come first
pub record IsCausalOrder (s : ScriptView) (may : ℕ → Bool) (r : ReportView) (lawful : IsLawfulReport s may r) (list : List Occurrence) : Type 0 where
  pub moment : ℕ → ℕ → ℕ
  pub stands : (f i : ℕ) (e : Event) → slice_get (trace_in r f) i ≡ Some e
      → slice_get list (moment f i) ≡ Some (record { fiber = f; place = i; event = e; stamp = stamp_in r f i })
  pub in_order : IsOneOrder (trace_in r) lawful.runs.labels (LeavesQueue s may r lawful) (Contains r.outside) moment

-- so it is wherever the report has the stamps of the definition and none has come to the greatest number
abbrev pub PutsCausesFirst : ReportView → List Occurrence → Type 0
PutsCausesFirst r list = (s : ScriptView) (may : ℕ → Bool) (report : IsStampedReport s may r) → IsBelowTop (trace_in r) (stamp_in r)
    → IsCausalOrder s may r report.stamped.lawful list
