-- Reports of which others than main see the same.
use Rattle.std.specs.Prelude.{◌≡◌, ◌≢◌, ℕ, ◌==◌, Bool, true, false, not, Some, List, [], ◌∷◌}
use Rattle.std.specs.List.{filter, list_any}
use Rattle.fx_term.specs.declared.outcome.Outcome.TheVariants as outcome
use Rattle.fx_term.specs.declared.event.Event.{Event}
use Rattle.fx_term.specs.declared.event.Event.TheVariants as event
use Rattle.fx_term.specs.Script.{ScriptView}
use Rattle.fx_model.specs.Report.{FiberReportView, ReportView, fiber_in}
use Rattle.fx_model.specs.LawfulReport.{IsLawfulReport}

-- the event is one that a fiber notes of its own cancellation, or of its own resources
abbrev pub is_private : Event → Bool
is_private event.Seen = true
is_private event.SelfRequest = true
is_private event.Cancelled = true
is_private (event.Acquired k) = true
is_private (event.Begin k) = true
is_private (event.End k) = true
is_private _ = false

-- the events that others can see, as `visible` has them of labels
abbrev pub visible_events : List Event → List Event
visible_events es = filter (λ e. not (is_private e)) es

-- main has ended
abbrev pub HasMainEnded : ReportView → Type 0
HasMainEnded r = (x : FiberReportView) → fiber_in r 0 ≡ Some x → x.has_ended ≡ true

-- main of the second report ended or not as that of the first one, and others see the same of it
pub record MainLooksAlike (r' : ReportView) (x : FiberReportView) : Type 0 where
  pub fiber : FiberReportView
  pub found : fiber_in r' 0 ≡ Some fiber
  pub state : fiber.has_ended ≡ x.has_ended
  pub sees : visible_events fiber.trace ≡ visible_events x.trace

-- All else is the same: the other fibers, with their traces, what is left in the queues, and who else than main was requested from outside
pub record LookAlike (r r' : ReportView) : Type 0 where
  pub main : (x : FiberReportView) → fiber_in r 0 ≡ Some x → MainLooksAlike r' x
  pub others : (f : ℕ) → f ≢ 0 → fiber_in r' f ≡ fiber_in r f
  pub left : r'.left ≡ r.left
  pub outside : (f : ℕ) → f ≢ 0 → list_any (λ g. g == f) r'.outside ≡ list_any (λ g. g == f) r.outside

-- a report is lawful for the script that looks so
pub record HasReportLike (s : ScriptView) (may : ℕ → Bool) (r : ReportView) : Type 0 where
  pub report : ReportView
  pub lawful : IsLawfulReport s may report
  pub alike : LookAlike r report

-- others saw of main that it was canceled, and no more
abbrev pub IsMainCanceledAlone : ReportView → Type 0
IsMainCanceledAlone r = (x : FiberReportView) → fiber_in r 0 ≡ Some x → visible_events x.trace ≡ event.Ended outcome.Canceled ∷ []
