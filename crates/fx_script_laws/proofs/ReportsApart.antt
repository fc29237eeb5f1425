-- Reports that one of two scripts has, and the other has not.
use Rattle.std.proofs.Common.{◌≡◌, ℕ, zero, suc, ◌==◌, All, Bool, true, false, Option, Some, None, List, [], ◌∷◌, refl, sym, ◌∙◌, ap, subst, arith}
use Rattle.std.specs.Prelude.{if◌then◌else◌}
use Rattle.std.proofs.lemmas.Bool.{eqb-true}
use Rattle.std.proofs.lemmas.Option.{none-some, same_Some}
use Rattle.std.proofs.lemmas.List.Elements.{All-nil, All-cons}
use Rattle.fx_term.specs.declared.done.Done.TheVariants.{Val}
use Rattle.fx_term.specs.declared.event.Event.{Event}
use Rattle.fx_term.specs.declared.event.Event.TheVariants as event
use Rattle.fx_term.specs.Element.{Element}
use Rattle.fx_term.specs.Term.{Term, Canceled, Never, Let, Mask, Finished, Masked}
use Rattle.fx_term.specs.Script.{ScriptView}
use Rattle.fx_term.specs.Queue.{queue_events, Leaves}
use Rattle.fx_term.proofs.LeavesLaws.{leaves_nothing}
use Rattle.fx_model.specs.Path.{MaskedIn, LetIn, must_cancel}
use Rattle.fx_model.specs.Row.{Counts, Label, Silent, Shows, known_canceled, one_more_mask}
use Rattle.fx_model.specs.Row as rule
use Rattle.fx_model.specs.Origin.{Origin, main_origin}
use Rattle.fx_model.specs.Step.{Progress, Runs, has_ended}
use Rattle.fx_model.specs.Step as step
use Rattle.fx_model.specs.Run.{IsRun, first_counts, events, Leads}
use Rattle.fx_model.specs.Outside.{can_step}
use Rattle.fx_model.specs.Report.{FiberReportView, ReportView, fiber_in, parent_in, parent_of_report, trace_in, trace_of_report, left_in, capacity_of}
use Rattle.fx_model.specs.Report.{final_outside}
use Rattle.fx_model.specs.LawfulReport.{HasStarters, HasRun, HasRuns, HasHistory, IsLawfulReport, starts_of, is_parent, BeginsAs, IsLearnt, IsSeenRightly}
use Rattle.fx_laws.proofs.Placed.{row_placed}
use Rattle.fx_laws.proofs.Doomed.{must_forced}
use Rattle.fx_script_laws.specs.BlockedAlone.{blocked_alone}

-- a fiber that shows only itself, and is blocked
module _ (t : Term) (es : List Event) (ts : List ℕ) where
  abbrev r : ReportView
  r = blocked_alone es ts

  abbrev s : ScriptView
  s = record { term = t; capacities = [] }

  abbrev main : FiberReportView
  main = record { id = 0; parent = None; has_ended = false; trace = es; stamps = ts }

  is_main : (f : ℕ) (x : FiberReportView) → fiber_in r f ≡ Some x → (f ≡ 0) × (x ≡ main)
  is_main f x e = by_test (0 == f) refl
    where
      by_test : (b : Bool) → (0 == f) ≡ b → (f ≡ 0) × (x ≡ main)
      by_test true q = (sym (eqb-true 0 f q), let k : Some main ≡ Some x = rw q at e in sym (same_Some main x k))
      by_test false q = absurd (let k : None ≡ Some x = rw q at e in none-some x k)

  no_parent : (f : ℕ) → parent_in r f ≡ None
  no_parent f = by_fiber (fiber_in r f) refl
    where
      by_fiber : (o : Option FiberReportView) → fiber_in r f ≡ o → parent_in r f ≡ None
      by_fiber None is = ap parent_of_report is
      by_fiber (Some x) is = ap parent_of_report is ∙ ap (λ (y : FiberReportView). y.parent) (is_main f x is).1

  module _ (no_queue : (q : ℕ) → queue_events q 0 es ≡ []) (no_start : (f : ℕ) → starts_of f es ≡ 0) where
    no_events : (q f : ℕ) → [] ≡ queue_events q f (trace_in r f)
    no_events q f = by_fiber (fiber_in r f) refl
      where
        by_fiber : (o : Option FiberReportView) → fiber_in r f ≡ o → [] ≡ queue_events q f (trace_in r f)
        by_fiber None is = ap (queue_events q f) (ap trace_of_report (sym is))
        by_fiber (Some x) is =
            let k = is_main f x is in
            let at : trace_in r f ≡ es = ap trace_of_report is ∙ ap (λ (y : FiberReportView). y.trace) k.1 in
            rw (at, k.0) (sym (no_queue q))

    starters : HasStarters r
    starters =
        record {
          ascending = λ k lt. absurd (omega (arith, lt));
          main = (main, refl, refl);
          others = λ f x e other. absurd (other (is_main f x e).0);
          once = λ g y e f.
              ap (λ (z : FiberReportView). starts_of f z.trace) (is_main g y e).1 ∙ no_start f
              ∙ sym (ap (λ (o : Option ℕ). if is_parent o g then 1 else 0) (no_parent f));
        }

    nothing : (q : ℕ) → left_in r q ≡ []
    nothing zero = refl
    nothing (suc q) = refl

    history : (q : ℕ) → HasHistory r q (capacity_of s q)
    history q =
        record {
          history = [];
          leaves = subst (λ (xs : List Element). Leaves (capacity_of s q) [] xs) (sym (nothing q)) (leaves_nothing (capacity_of s q));
          cuts = no_events q;
        }

    -- what it showed is of its own alone
    module _ (labels : List Label) (counts : Counts) (p : Progress) (run : IsRun (main_origin t) labels counts p) (traced : events labels ≡ es)
        (going : has_ended p ≡ false) (unable : can_step (final_outside s r) 0 counts p ≡ false)
        (own : (P : Label → Type 0) → P Silent → P (Shows event.SelfRequest) → All P labels) (may : ℕ → Bool) where
      main_run : HasRun s r 0 main (main_origin t) labels counts p
      main_run = record { run = run; trace = traced; state = going; unable = unable }

      run_of : (f : ℕ) (x : FiberReportView) → fiber_in r f ≡ Some x → HasRun s r f x (main_origin t) labels counts p
      run_of f x e = let k = is_main f x e in rw (k.0, k.1) main_run

      abbrev runs : HasRuns s r
      runs = record { origin = λ f. main_origin t; labels = λ f. labels; counts = λ f. counts; progress = λ f. p; run = run_of }

      is_lawful : IsLawfulReport s may r
      is_lawful =
          record {
            starters = starters;
            runs = runs;
            origins = record { main = refl; child = λ f x e. own (BeginsAs (λ g. main_origin t)) tt tt };
            left_by_queue = refl;
            histories = history;
            learnt = λ f x e. own (IsLearnt r) tt tt;
            seen = λ f x e. own (IsSeenRightly r f) tt tt;
            outside_ascending = λ k lt. absurd (omega (arith, lt));
            outside_named = λ f c. absurd (let lt = c.1 in omega arith);
          }

abbrev script_of : Term → ScriptView
script_of t = record { term = t; capacities = [] }

-- who waits for good may be blocked, with nothing shown
pub never_is_blocked : (may : ℕ → Bool) → IsLawfulReport (record { term = Never; capacities = [] }) may (blocked_alone [] [])
never_is_blocked may =
    is_lawful Never [] [] (λ q. refl) (λ f. refl) [] (first_counts (main_origin Never)) (Runs Never) (refl, refl) refl refl refl (λ P a b. All-nil P) may

-- who cancels itself shows that first
cancels_first : (t : Term) (c d : Counts) (p : Progress) (ls : List Label) (es : List Event) → must_cancel c.known t ≡ true → Leads c (Runs t) ls d p
    → events ls ≡ event.SelfRequest ∷ es → ⊥
cancels_first t c d p [] es must h is = absurd cc
cancels_first t c d p (l ∷ ls) es must h is =
    let o = (must_forced c t must).only l h.0 h.1 h.2 in
    let e : events (Shows event.Cancelled ∷ ls) ≡ event.SelfRequest ∷ es = ap (λ (m : Label). events (m ∷ ls)) (sym o.0) ∙ is in
    absurd cc

cancels_or_steps : (t : Term) (c d : Counts) (p : Progress) (ls : List Label) → must_cancel c.known t ≡ true → Leads c (Runs t) ls d p → events ls ≡ []
    → (d ≡ c) × (p ≡ Runs t)
cancels_or_steps t c d p [] must h is = h
cancels_or_steps t c d p (l ∷ ls) must h is =
    let o = (must_forced c t must).only l h.0 h.1 h.2 in
    let e : events (Shows event.Cancelled ∷ ls) ≡ [] = ap (λ (m : Label). events (m ∷ ls)) (sym o.0) ∙ is in
    absurd cc

module _ (t : Term) (es : List Event) (ts : List ℕ) (may : ℕ → Bool) (h : IsLawfulReport (script_of t) may (blocked_alone es ts)) where
  run_told : HasRun (script_of t) (blocked_alone es ts) 0 (main t es ts) (main_origin t) (h.runs.labels 0) (h.runs.counts 0) (h.runs.progress 0)
  run_told =
      subst (λ (b : Origin). HasRun (script_of t) (blocked_alone es ts) 0 (main t es ts) b (h.runs.labels 0) (h.runs.counts 0) (h.runs.progress 0))
      h.origins.main
      (h.runs.run 0 (main t es ts) refl)

pub canceled_is_not_blocked : (may : ℕ → Bool) → IsLawfulReport (record { term = Canceled; capacities = [] }) may (blocked_alone [] []) → ⊥
canceled_is_not_blocked may h =
    let k = run_told Canceled [] [] may h in
    let at = cancels_or_steps Canceled (first_counts (main_origin Canceled)) (h.runs.counts 0) (h.runs.progress 0) (h.runs.labels 0) refl k.run k.trace in
    let goes : can_step (final_outside (script_of Canceled) (blocked_alone [] [])) 0 (first_counts (main_origin Canceled)) (Runs Canceled) ≡ false =
    subst (λ (x : Counts). can_step (final_outside (script_of Canceled) (blocked_alone [] [])) 0 x (Runs Canceled) ≡ false) at.0
    (subst (λ (x : Progress). can_step (final_outside (script_of Canceled) (blocked_alone [] [])) 0 (h.runs.counts 0) x ≡ false) at.1 k.unable) in
    absurd cc

-- in a mask a fiber that requests itself goes on, and waits
abbrev requests_and_waits : Term
requests_and_waits = Let None Canceled Never

abbrev requested : List Event
requested = event.SelfRequest ∷ []

pub mask_is_blocked : (may : ℕ → Bool)
    → IsLawfulReport (record { term = Mask 0 (Let None Canceled Never); capacities = [] }) may (blocked_alone (event.SelfRequest ∷ []) (1 ∷ []))
mask_is_blocked may =
    let t = Mask 0 requests_and_waits in
    let c = first_counts (main_origin t) in
    let m = one_more_mask c in
    let k = known_canceled m in
    is_lawful t requested (1 ∷ []) (λ q. refl) (λ f. refl) (Silent ∷ Shows event.SelfRequest ∷ Silent ∷ []) k (Runs (Masked 0 Never)) (
      m,
      Runs (Masked 0 requests_and_waits),
      step.row refl rule.mask,
      (
        k,
        Runs (Masked 0 (Let None (Finished (Val 0)) Never)),
        step.row refl (row_placed (MaskedIn 0 ∷ LetIn None Never ∷ []) (rule.self_request refl)),
        (k, Runs (Masked 0 Never), step.row refl (row_placed (MaskedIn 0 ∷ []) rule.let_value), (refl, refl)),
      ),
    ) refl refl refl
    (λ P a b. All-cons P Silent (Shows event.SelfRequest ∷ Silent ∷ []) a (All-cons P (Shows event.SelfRequest) (Silent ∷ []) b
    (All-cons P Silent [] a (All-nil P)))) may

pub inside_is_not_blocked : (may : ℕ → Bool)
    → IsLawfulReport (record { term = Let None Canceled Never; capacities = [] }) may (blocked_alone (event.SelfRequest ∷ []) (1 ∷ [])) → ⊥
inside_is_not_blocked may h =
    let k = run_told requests_and_waits requested (1 ∷ []) may h in
    cancels_first requests_and_waits (first_counts (main_origin requests_and_waits)) (h.runs.counts 0) (h.runs.progress 0) (h.runs.labels 0) [] refl k.run
    k.trace
