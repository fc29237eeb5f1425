-- The stamps that a report tells.
use Rattle.std.specs.Prelude.{◌≡◌, ℕ, Bool, Option, Some, None, List, [], length}
use Rattle.fx_term.specs.Script.{ScriptView}
use Rattle.fx_model.specs.Report.{FiberReportView, ReportView, fiber_in, trace_in}
use Rattle.fx_model.specs.KeptStamps.{number_in}
use Rattle.fx_model.specs.Stamps.{IsLawfulWithStamps}

abbrev pub stamps_of_report : Option FiberReportView → List ℕ
stamps_of_report None = []
stamps_of_report (Some x) = x.stamps

-- the stamps of the fiber of that number, and that of its event i
abbrev pub stamps_in : ReportView → ℕ → List ℕ
stamps_in r f = stamps_of_report (fiber_in r f)

abbrev pub stamp_in : ReportView → ℕ → ℕ → ℕ
stamp_in r f = number_in (stamps_in r f)

-- The report has one stamp for each event. By runs and histories that make it lawful these are the stamps of the definition, and where none has come to the
-- greatest number, they put all events in one order in which causes come first
pub record IsStampedReport (s : ScriptView) (may : ℕ → Bool) (r : ReportView) : Type 0 where
  pub one_each : (f : ℕ) → length (stamps_in r f) ≡ length (trace_in r f)
  pub stamped : IsLawfulWithStamps s may r (stamp_in r)
