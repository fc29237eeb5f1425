-- What a report says of a race of which one side never wins: main comes to what the other side comes to.
use Rattle.std.specs.Prelude.{◌≡◌, ℕ, false, Some, List, All}
use Rattle.fx_term.specs.declared.outcome.Outcome.{Outcome}
use Rattle.fx_term.specs.declared.outcome.Outcome.TheVariants as outcome
use Rattle.fx_model.specs.Row.{Counts, Label}
use Rattle.fx_model.specs.Origin.{Origin}
use Rattle.fx_model.specs.Step.{Progress, has_ended}
use Rattle.fx_model.specs.Run.{IsRun, IsUnrequested, events}
use Rattle.fx_model.specs.Report.{FiberReportView, ReportView, fiber_in}
use Rattle.fx_model.specs.LawfulReport.{EndsWith}
use Rattle.fx_spawn_laws.specs.MainFiber.{MainEnds, MainIsBlocked}

-- fiber f of the report began so, and ran as one that nobody requests does
pub record RanUnrequested (r : ReportView) (f : ℕ) (b : Origin) : Type 0 where
  pub fiber : FiberReportView
  pub is_fiber : fiber_in r f ≡ Some fiber
  pub labels : List Label
  pub counts : Counts
  pub progress : Progress
  pub run : IsRun b labels counts progress
  pub trace : events labels ≡ fiber.trace
  pub state : has_ended progress ≡ fiber.has_ended
  pub unrequested : All IsUnrequested labels

-- fiber f ran so, and the main fiber comes to this by its outcome, and waits where it has not ended
pub record MainFollows (r : ReportView) (f : ℕ) (b : Origin) (Comes : Outcome → Type 0) : Type 0 where
  pub ran : RanUnrequested r f b
  pub ends : (o : Outcome) → EndsWith ran.fiber.trace o → Comes o
  pub waits : ran.fiber.has_ended ≡ false → MainIsBlocked r

-- the main fiber ends with this outcome, or waits for good where that is to be canceled
abbrev pub MainEndsUnlessCanceled : ReportView → Outcome → Type 0
MainEndsUnlessCanceled r outcome.Canceled = MainIsBlocked r
MainEndsUnlessCanceled r o = MainEnds r o
