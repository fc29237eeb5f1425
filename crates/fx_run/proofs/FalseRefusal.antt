-- The false report keeps the rules, but nothing stands behind its refusal.
use Rattle.std.proofs.Common.{◌≡◌, ℕ, zero, suc, All, Bool, Option, Some, None, List, [], ◌∷◌, length}
use Rattle.std.proofs.Common.{refl, sym, ◌∙◌, ap, subst, arith, inl, inr}
use Rattle.std.specs.Prelude.{◌==◌, if◌then◌else◌}
use Rattle.std.proofs.lemmas.Bool.{eqb-true}
use Rattle.std.proofs.lemmas.Option.{same_Some}
use Rattle.std.proofs.lemmas.List.Elements.{All-nil, All-cons}
use Rattle.fx_term.specs.declared.event.Event.TheVariants as event
use Rattle.fx_term.specs.declared.outcome.Outcome.TheVariants.{Succeeded}
use Rattle.fx_term.specs.declared.done.Done.TheVariants.{Val}
use Rattle.fx_term.specs.Element.{Element}
use Rattle.fx_term.specs.declared.queue_event.QueueEvent.{QueueEvent}
use Rattle.fx_term.specs.Term.{Finished}
use Rattle.fx_term.specs.Queue.{QueueState, empty_queue, queue_events, Leaves}
use Rattle.fx_term.proofs.LeavesLaws.{leaves_nothing}
use Rattle.fx_model.specs.Row.{Counts, Label, Shows}
use Rattle.fx_model.specs.Row as row
use Rattle.fx_model.specs.Origin.{Origin, main_origin}
use Rattle.fx_model.specs.Step.{Progress, Runs, HasEnded}
use Rattle.fx_model.specs.Step as step
use Rattle.fx_model.specs.Run.{IsRun, first_counts}
use Rattle.fx_model.specs.Report.{FiberReportView, fiber_in, parent_in, parent_of_report, trace_in, trace_of_report, left_in, capacity_of}
use Rattle.fx_model.specs.LawfulReport.{HasStarters, HasRun, HasRuns, HasHistory, IsLawfulReport, starts_of, is_parent, BeginsAs, IsLearnt, IsSeenRightly}
use Rattle.fx_port.specs.PassesAgree.{Full}
use Rattle.fx_run.specs.Refusals.{IsOnlyFiber, IsLawfulWithRefusals}
use Rattle.fx_run.proofs.Members.{found_is}
use Rattle.fx_run.specs.FalseRefusal.{false_script, false_fiber, false_report}

-- the report has the one fiber alone
is_that : (f : ℕ) (x : FiberReportView) → fiber_in false_report f ≡ Some x → (f ≡ 0) × (x ≡ false_fiber)
is_that f x e =
    let found = found_is (λ (y : FiberReportView). y.id == f) false_report.fibers x e in
    let same : x ≡ false_fiber = elim found.1 [ inl y ↦ y | inr none ↦ absurd none ] in
    (sym (eqb-true x.id f found.0) ∙ ap (λ (y : FiberReportView). y.id) same, same)

no_parent : (f : ℕ) → parent_in false_report f ≡ None
no_parent f = by_fiber (fiber_in false_report f) refl
  where
    by_fiber : (o : Option FiberReportView) → fiber_in false_report f ≡ o → parent_in false_report f ≡ None
    by_fiber None is = ap parent_of_report is
    by_fiber (Some x) is = ap parent_of_report is ∙ ap (λ (y : FiberReportView). y.parent) (is_that f x is).1

-- nobody did anything to a queue
no_events : (q f : ℕ) → [] ≡ queue_events q f (trace_in false_report f)
no_events q f = by_fiber (fiber_in false_report f) refl
  where
    by_fiber : (o : Option FiberReportView) → fiber_in false_report f ≡ o → [] ≡ queue_events q f (trace_in false_report f)
    by_fiber None is = ap (queue_events q f) (ap trace_of_report (sym is))
    by_fiber (Some x) is =
        sym (ap (queue_events q f) (ap trace_of_report is ∙ ap (λ (y : FiberReportView). y.trace) (is_that f x is).1))

starters : HasStarters false_report
starters = record {
  ascending = λ k lt. absurd (omega (arith, lt));
  main = (false_fiber, refl, refl);
  others = λ f x e other. absurd (other (is_that f x e).0);
  once = λ g y e f. ap (λ (z : FiberReportView). starts_of f z.trace) (is_that g y e).1
      ∙ sym (ap (λ (o : Option ℕ). if is_parent o g then 1 else 0) (no_parent f));
}

abbrev origin : Origin
origin = main_origin false_script.term

abbrev labels : List Label
labels = Shows (event.Refused 0) ∷ Shows (event.Ended (Succeeded 0)) ∷ []

abbrev counts : Counts
counts = first_counts origin

is_run : IsRun origin labels counts (HasEnded (Succeeded 0))
is_run = (counts, Runs (Finished (Val 0)), step.row refl row.refused, (counts, HasEnded (Succeeded 0), step.succeeds refl, (refl, refl)))

abbrev runs : HasRuns false_script false_report
runs = record {
  origin = λ f. origin;
  labels = λ f. labels;
  counts = λ f. counts;
  progress = λ f. HasEnded (Succeeded 0);
  run = λ f x e.
      subst (λ (y : FiberReportView). HasRun false_script false_report f y origin labels counts (HasEnded (Succeeded 0))) (sym (is_that f x e).1)
      (record { run = is_run; trace = refl; state = refl; unable = refl });
}

-- and nothing is left in one
nothing : (q : ℕ) → left_in false_report q ≡ []
nothing zero = refl
nothing (suc q) = refl

history : (q : ℕ) → HasHistory false_report q (capacity_of false_script q)
history q = record {
  history = [];
  leaves = subst (λ (xs : List Element). Leaves (capacity_of false_script q) [] xs) (sym (nothing q)) (leaves_nothing (capacity_of false_script q));
  cuts = no_events q;
}

of_both : (P : Label → Type 0) → P (Shows (event.Refused 0)) → P (Shows (event.Ended (Succeeded 0))) → All P labels
of_both P a b = All-cons P (Shows (event.Refused 0)) (Shows (event.Ended (Succeeded 0)) ∷ []) a
    (All-cons P (Shows (event.Ended (Succeeded 0))) [] b (All-nil P))

pub false_is_lawful : (may : ℕ → Bool) → IsLawfulReport false_script may false_report
false_is_lawful may = record {
  starters = starters;
  runs = runs;
  origins = record { main = refl; child = λ f x e. of_both (BeginsAs runs.origin) tt tt };
  left_by_queue = refl;
  histories = history;
  learnt = λ f x e. of_both (IsLearnt false_report) tt tt;
  seen = λ f x e. of_both (IsSeenRightly false_report f) tt tt;
  outside_ascending = λ k lt. absurd (omega (arith, lt));
  outside_named = λ f c. absurd (let lt = c.1 in omega arith);
}

is_alone : IsOnlyFiber false_report 0
is_alone g x e = (is_that g x e).0

-- nothing leaves a queue empty
leaves_none : (capacity : ℕ) (items : List Element) → Leaves capacity [] items → items ≡ []
leaves_none capacity items l = sym l.rest_is ∙ sym (ap (λ (s : QueueState). s.items) (same_Some empty_queue l.last l.legal))

pub false_is_refused : (may : ℕ → Bool) → IsLawfulWithRefusals false_script may false_report → ⊥
false_is_refused may h =
    let w = h.refusals 0 false_fiber refl Full 0 [] (event.Ended (Succeeded 0) ∷ []) refl in
    let none = leaves_none 4 w.items (subst (λ (l : List QueueEvent). Leaves 4 l w.items) (w.alone is_alone) w.legal) in
    let long : 0 ≡ 4 = sym (ap length none) ∙ w.found in
    omega (arith, long)
