-- What is said of a run on threads that has ended.
use Rattle.std.specs.Prelude.{◌≡◌, ℕ, Bool, List, Contains, length}
use Rattle.fx_term.specs.declared.node.Node.{Node}
use Rattle.fx_term.specs.Script.{ScriptView}
use Rattle.fx_model.specs.Report.{ReportView, trace_in}
use Rattle.fx_model.specs.ReportStamps.{stamps_in, stamp_in, IsStampedReport}
use Rattle.fx_model.specs.LawfulReport.{IsLawfulReport}
use Rattle.fx_model.specs.Headline.{HoldsWhatIsPromised, KeepsWhatIsPromised}
use Rattle.fx_model.specs.Causes.{LeavesQueue}
use Rattle.fx_model.specs.Stamps.{IsStamped, IsBelowTop, IsOrderedByStamps}
use Rattle.fx_report.specs.declared.blocked.Blocked.{Blocked}
use Rattle.fx_run.specs.Refusals.{AreRefusalsTrue, IsLawfulWithRefusals}
use Rattle.fx_run.specs.RunWaits.{AreBlockedAt}

-- The report has one stamp for each event. By these runs and histories these are the stamps of the definition, and where none has come to the greatest number,
-- they put all events in one order in which causes come first
pub record HasStamps (s : ScriptView) (may : ℕ → Bool) (r : ReportView) (lawful : IsLawfulReport s may r) : Type 0 where
  pub one_each : (f : ℕ) → length (stamps_in r f) ≡ length (trace_in r f)
  pub began : ℕ → ℕ
  pub cause : ℕ → ℕ → ℕ
  pub are : IsStamped (trace_in r) lawful.runs.labels (LeavesQueue s may r lawful) (Contains r.outside) began (stamp_in r) cause
  pub ordered : IsBelowTop (trace_in r) (stamp_in r) → IsOrderedByStamps s may r lawful (stamp_in r)

-- A report is lawful, by runs and histories by which it holds what is promised, its refusals are true, and it has the stamps of the definition
pub record IsLawfulRun (s : ScriptView) (may : ℕ → Bool) (r : ReportView) : Type 0 where
  pub lawful : IsLawfulReport s may r
  pub promised : HoldsWhatIsPromised s r lawful.runs
  pub refusals : AreRefusalsTrue s may r lawful
  pub stamped : HasStamps s may r lawful

-- so it is by itself each of these
abbrev pub keeps_what_is_promised : {s : ScriptView} {may : ℕ → Bool} {r : ReportView} → IsLawfulRun s may r → KeepsWhatIsPromised s may r
keeps_what_is_promised h = record { lawful = h.lawful; promised = h.promised }

abbrev pub is_lawful_with_refusals : {s : ScriptView} {may : ℕ → Bool} {r : ReportView} → IsLawfulRun s may r → IsLawfulWithRefusals s may r
is_lawful_with_refusals h = record { lawful = h.lawful; refusals = h.refusals }

abbrev pub is_stamped_report : {s : ScriptView} {may : ℕ → Bool} {r : ReportView} → IsLawfulRun s may r → IsStampedReport s may r
is_stamped_report h = record {
  one_each = h.stamped.one_each;
  stamped = record { lawful = h.lawful; began = h.stamped.began; cause = h.stamped.cause; are = h.stamped.are; ordered = h.stamped.ordered };
}

-- and by the same runs its blocked fibers wait for that, and stand there
pub record IsLawfulHalt (nodes : List Node) (s : ScriptView) (may : ℕ → Bool) (r : ReportView) (blocked : List Blocked) : Type 0 where
  pub run : IsLawfulRun s may r
  pub are : AreBlockedAt nodes run.lawful.runs.progress r blocked
