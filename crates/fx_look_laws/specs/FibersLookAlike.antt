-- Reports of which others see the same, whichever of some fibers they look at.
use Rattle.std.specs.Prelude.{◌≡◌, ℕ, ◌==◌, Bool, true, false, ◌&&◌, not, Some, List, [], ◌∷◌, map}
use Rattle.std.specs.List.{list_any}
use Rattle.fx_term.specs.declared.event.Event.{Event}
use Rattle.fx_term.specs.declared.event.Event.TheVariants as event
use Rattle.fx_term.specs.declared.outcome.Outcome.TheVariants as outcome
use Rattle.fx_term.specs.Need.{need}
use Rattle.fx_term.specs.Script.{ScriptView}
use Rattle.fx_term.specs.Term.{Term}
use Rattle.fx_model.specs.Origin.{Origin}
use Rattle.fx_model.specs.Row.{Counts, Label}
use Rattle.fx_model.specs.Step.{Progress}
use Rattle.fx_model.specs.Run.{IsRun, events}
use Rattle.fx_model.specs.Outside.{Outside}
use Rattle.fx_model.specs.Report.{FiberReportView, ReportView, fiber_in}
use Rattle.fx_model.specs.LawfulReport.{IsLawfulReport}
use Rattle.fx_laws.specs.Others.{visible}
use Rattle.fx_script_laws.specs.Interchange.{StopsThere, AreOthers, put_each}
use Rattle.fx_look_laws.specs.LookAlike.{visible_events}
use Rattle.fx_look_laws.specs.OtherFibers.{IsOfTerm}

-- fiber f of the second report has the parent of that of the first one, ended or not as that, and others see the same of it
pub record FiberLooksAlike (r' : ReportView) (f : ℕ) (x : FiberReportView) : Type 0 where
  pub fiber : FiberReportView
  pub found : fiber_in r' f ≡ Some fiber
  pub parent : fiber.parent ≡ x.parent
  pub state : fiber.has_ended ≡ x.has_ended
  pub sees : visible_events fiber.trace ≡ visible_events x.trace

-- So it is of each fiber, and of all but some the traces are the same. What is left in the queues is the same, and so is who else was requested from outside
pub record FibersLookAlike (IsOneOfSome : ℕ → Type 0) (r r' : ReportView) : Type 0 where
  pub numbers : map (λ (x : FiberReportView). x.id) r'.fibers ≡ map (λ (x : FiberReportView). x.id) r.fibers
  pub fibers : (f : ℕ) (x : FiberReportView) → fiber_in r f ≡ Some x → FiberLooksAlike r' f x
  pub others : (f : ℕ) → (IsOneOfSome f → ⊥) → fiber_in r' f ≡ fiber_in r f
  pub left : r'.left ≡ r.left
  pub outside : (f : ℕ) → (IsOneOfSome f → ⊥) → list_any (λ g. g == f) r'.outside ≡ list_any (λ g. g == f) r.outside

-- a report is lawful for the script that looks so
pub record HasReportWithFibersLike (s : ScriptView) (may : ℕ → Bool) (IsOneOfSome : ℕ → Type 0) (r : ReportView) : Type 0 where
  pub report : ReportView
  pub lawful : IsLawfulReport s may report
  pub alike : FibersLookAlike IsOneOfSome r report

-- a fiber that begins so has a run to such an end of which others can see this
pub record CanEndSo (Ends : Counts → Progress → Type 0) (b : Origin) (sees : List Label) : Type 0 where
  pub labels : List Label
  pub counts : Counts
  pub progress : Progress
  pub run : IsRun b labels counts progress
  pub visible_is : visible labels ≡ sees
  pub ends : Ends counts progress

-- by each outside, where a fiber with the second term can come to where it cannot step, or to its end, one with the first can, so that others see the same of
-- it; said of fibers alone of which others see such events, and that have ended or not
abbrev pub EndsLikeAllOf : (Bool → List Event → Bool) → Term → Term → Type 0
EndsLikeAllOf is_so t u =
    (o : Outside) (f next end : ℕ) (ended : Bool) (ls : List Label) → is_so ended (events ls) ≡ true
    → CanEndSo (StopsThere o f ended) (record { term = u; next = next; end = end }) ls
    → CanEndSo (StopsThere o f ended) (record { term = t; next = next; end = end }) ls

-- The two terms use as many fiber numbers and, whatever numbers stand for their names but their own ones, others can see of a fiber with the second one what
-- they can of one with the first
pub record LooksLikeAllWithNumbers (is_so : Bool → List Event → Bool) (own : ℕ → Bool) (t u : Term) : Type 0 where
  pub needs : (numbers : List (ℕ × ℕ)) → AreOthers own numbers → need (put_each numbers t) ≡ need (put_each numbers u)
  pub looks : (numbers : List (ℕ × ℕ)) → AreOthers own numbers → EndsLikeAllOf is_so (put_each numbers u) (put_each numbers t)

-- a fiber of a lawful report begins with such a term
abbrev pub BeginsWith : (ℕ → Bool) → Term → (s : ScriptView) (may : ℕ → Bool) (r : ReportView) → IsLawfulReport s may r → ℕ → Type 0
BeginsWith own t s may r lawful f = IsOfTerm own t (lawful.runs.origin f).term

-- of which fibers such a law speaks: of each; of each but one that was canceled, with nothing else that others saw; and of those that have ended, too
abbrev pub is_canceled_alone : List Event → Bool
is_canceled_alone (event.Ended outcome.Canceled ∷ []) = true
is_canceled_alone _ = false

abbrev pub of_any : Bool → List Event → Bool
of_any ended es = true

abbrev pub of_any_but_alone : Bool → List Event → Bool
of_any_but_alone ended es = not (ended && is_canceled_alone es)

abbrev pub of_ended : Bool → List Event → Bool
of_ended ended es = ended

abbrev pub of_ended_but_alone : Bool → List Event → Bool
of_ended_but_alone ended es = ended && not (is_canceled_alone es)
