-- For each fiber of a lawful report a run of the fiber of that number in the other script, in the order of numbers.
use Rattle.std.proofs.Common.{◌≡◌, ◌≢◌, ◌⊎◌, ℕ, zero, suc, ◌+◌, ◌<◌, Bool, false, Option, Some, None, List, []}
use Rattle.std.proofs.Common.{refl, sym, ◌∙◌, ap, subst, arith, inl, inr}
use Rattle.std.proofs.lemmas.Bool.{cases_eq}
use Rattle.std.proofs.lemmas.Option.{none-some, same_Some}
use Rattle.fx_term.specs.Term.{Term}
use Rattle.fx_term.specs.Need.{need}
use Rattle.fx_term.specs.Script.{ScriptView}
use Rattle.fx_model.specs.Row.{Counts, Label}
use Rattle.fx_model.specs.Origin.{Origin, main_origin}
use Rattle.fx_model.specs.Step.{Progress, Runs, has_ended}
use Rattle.fx_model.specs.Run.{first_counts, Leads, IsRun}
use Rattle.fx_model.specs.Outside.{Outside, can_step}
use Rattle.fx_model.specs.Report.{FiberReportView, ReportView, fiber_in, parent_in, parent_of_report, final_outside}
use Rattle.fx_model.specs.LawfulReport.{starts_of, IsLawfulReport}
use Rattle.fx_model.proofs.StartLaws.{run_starts}
use Rattle.fx_model.proofs.HeadlineLaws.{started_once, child_begins, numbers_above}
use Rattle.fx_laws.specs.Others.{visible}
use Rattle.fx_script_laws.specs.Filled.{none_bound}
use Rattle.fx_script_laws.specs.Interchange.{StopsThere}
use Rattle.fx_script_laws.proofs.StartsFound.{find_start, found_by_trace, begins_found}
use Rattle.fx_look_laws.proofs.VisibleEvents.{sees_request}
use Rattle.fx_look_laws.specs.OtherFibers.{StartsOthers, BeginsOtherwise, other, within, AreLikeOrigins}
use Rattle.fx_look_laws.specs.FibersLookAlike.{CanEndSo}
use Rattle.fx_look_laws.proofs.OtherTerms.{ArePutToo}
use Rattle.fx_look_laws.proofs.OtherSteps.{AllLike, runs, can_too, ended_too, run_too}
use Rattle.fx_look_laws.proofs.LikeLabels.{IsFoundLike, found_too, visible_like, each_itself}

module _ (Pair : (ℕ → Bool) → Term → Term → Type 0) (puts : ArePutToo Pair) (needs : (v : ℕ → Bool) (t u : Term) → Pair v t u → need t ≡ need u)
    (s : ScriptView) (term' : Term) (may : ℕ → Bool) (r : ReportView) (lawful : IsLawfulReport s may r) (IsLooked : ℕ → Term → Type 0)
    (looked : (f : ℕ) (x : FiberReportView) → fiber_in r f ≡ Some x → (u : Term) → Pair none_bound (lawful.runs.origin f).term u → IsLooked f u)
    (begins_main : IsLooked 0 term' ⊎ BeginsOtherwise Pair s.term term') (same_need : need s.term ≡ need term') where
  abbrev outside : Outside
  outside = final_outside s r

  -- where a fiber begins with another term there, one with that can look so, and end so
  abbrev pub EachLooks : Type 0
  EachLooks =
      (f : ℕ) (x : FiberReportView) → fiber_in r f ≡ Some x → (u : Term) → IsLooked f u
      → CanEndSo (StopsThere (final_outside s r) f (has_ended (lawful.runs.progress f)))
      (record { term = u; next = (lawful.runs.origin f).next; end = (lawful.runs.origin f).end }) (visible (lawful.runs.labels f))

  -- what fiber f does there: the same as here, or what looks the same; where that sees a request, the fiber is requested from outside
  pub data IsDoneSo (f : ℕ) (b : Origin) (labels : List Label) (asks : Bool) : Type 0 where
    kept : AllLike Pair (lawful.runs.labels f) labels → asks ≡ false → IsDoneSo f b labels asks
    looks_so : IsLooked f b.term → asks ≡ sees_request labels → IsDoneSo f b labels asks

  pub record IsToldSo (f : ℕ) (origin : Origin) (labels : List Label) (counts : Counts) (progress : Progress) (asks : Bool) : Type 0 where
    pub run : IsRun origin labels counts progress
    pub like : AllLike Pair (visible (lawful.runs.labels f)) (visible labels)
    pub done : IsDoneSo f origin labels asks
    pub unable : can_step (final_outside s r) f counts progress ≡ false
    pub state : has_ended progress ≡ has_ended (lawful.runs.progress f)

  pub record OtherRun (f : ℕ) : Type 0 where
    pub origin : Origin
    pub labels : List Label
    pub counts : Counts
    pub progress : Progress
    pub asks : Bool
    pub told : (x : FiberReportView) → fiber_in r f ≡ Some x → IsToldSo f origin labels counts progress asks
    pub absent : fiber_in r f ≡ None → asks ≡ false

  -- a run for each number, of a fiber that begins as the labels of its parent say
  pub record OtherRuns : Type 0 where
    pub run_of : (f : ℕ) → OtherRun f
    pub main_is : (run_of 0).origin ≡ main_origin term'
    pub begins : (f p : ℕ) (b : Origin) → parent_in r f ≡ Some p → find_start f (run_of p).labels ≡ Some b → (run_of f).origin ≡ b

  module _ (looks : EachLooks) where
    -- what fiber f begins with there: another term, or one in which other fibers are started
    data IsBegun (f : ℕ) (u : Term) : Type 0 where
      looks_there : IsLooked f u → IsBegun f u
      runs_there : StartsOthers Pair none_bound (lawful.runs.origin f).term u → IsBegun f u

    record BeginsSo (f : ℕ) (b : Origin) : Type 0 where
      pub term : IsBegun f b.term
      pub next_is : (lawful.runs.origin f).next ≡ b.next
      pub end_is : (lawful.runs.origin f).end ≡ b.end

    begins_like : (f : ℕ) (x : FiberReportView) → fiber_in r f ≡ Some x → (b : Origin) → AreLikeOrigins Pair (lawful.runs.origin f) b → BeginsSo f b
    begins_like f x at b h = record { term = by_term h.term; next_is = h.next_is; end_is = h.end_is }
      where
        by_term : BeginsOtherwise Pair (lawful.runs.origin f).term b.term → IsBegun f b.term
        by_term (other p) = looks_there (looked f x at b.term p)
        by_term (within q) = runs_there q

    same_first : (f : ℕ) (b' : Origin) → BeginsSo f b' → first_counts (lawful.runs.origin f) ≡ first_counts b'
    same_first f b' h = let p = h.next_is in let q = h.end_is in cc

    with_range : (f : ℕ) (b' : Origin) → BeginsSo f b'
        → record { term = b'.term; next = (lawful.runs.origin f).next; end = (lawful.runs.origin f).end } ≡ b'
    with_range f b' h = let p = h.next_is in let q = h.end_is in rw (p, q) refl

    -- what begins so
    module _ (f : ℕ) (b : Origin) (begins : (x : FiberReportView) → fiber_in r f ≡ Some x → BeginsSo f b) where
      abbrev was : Origin
      was = lawful.runs.origin f

      abbrev by_begin : (x : FiberReportView) → fiber_in r f ≡ Some x → IsBegun f b.term → OtherRun f
      by_begin x e (looks_there p) =
          let k : CanEndSo (StopsThere outside f (has_ended (lawful.runs.progress f))) b (visible (lawful.runs.labels f)) =
          subst (λ (a : Origin). CanEndSo (StopsThere outside f (has_ended (lawful.runs.progress f))) a (visible (lawful.runs.labels f)))
          (with_range f b (begins x e)) (looks f x e b.term p) in
          record {
            origin = b;
            labels = k.labels;
            counts = k.counts;
            progress = k.progress;
            asks = sees_request k.labels;
            told = λ y at.
                record {
                  run = k.run;
                  like = subst (λ (ls : List Label). AllLike Pair (visible (lawful.runs.labels f)) ls) (sym k.visible_is)
                      (each_itself (visible (lawful.runs.labels f)));
                  done = looks_so p refl;
                  unable = k.ends.0;
                  state = k.ends.1;
                };
            absent = λ none. absurd (none-some x (sym none ∙ e));
          }
      by_begin x e (runs_there q) =
          let h = lawful.runs.run f x e in
          let k = run_too puts needs (lawful.runs.labels f) (first_counts was) (lawful.runs.counts f) (Runs was.term) (Runs b.term) (lawful.runs.progress f)
          (runs q) h.run in
          record {
            origin = b;
            labels = k.labels;
            counts = lawful.runs.counts f;
            progress = k.progress;
            asks = false;
            told = λ y at.
                record {
                  run = subst (λ (c : Counts). Leads c (Runs b.term) k.labels (lawful.runs.counts f) k.progress) (same_first f b (begins x e)) k.run;
                  like = visible_like k.like;
                  done = kept k.like refl;
                  unable = sym (can_too outside f (lawful.runs.counts f) k.is_like) ∙ h.unable;
                  state = sym (ended_too k.is_like);
                };
            absent = λ none. absurd (none-some x (sym none ∙ e));
          }

      by_begin_origin : (x : FiberReportView) (e : fiber_in r f ≡ Some x) (p : IsBegun f b.term) → (by_begin x e p).origin ≡ b
      by_begin_origin x e (looks_there p) = refl
      by_begin_origin x e (runs_there q) = refl

      abbrev by_fiber : (o : Option FiberReportView) → fiber_in r f ≡ o → OtherRun f
      by_fiber None e =
          record {
            origin = b;
            labels = [];
            counts = first_counts b;
            progress = Runs b.term;
            asks = false;
            told = λ x at. absurd (none-some x (sym e ∙ at));
            absent = λ none. refl;
          }
      by_fiber (Some x) e = by_begin x e (begins x e).term

      by_fiber_origin : (o : Option FiberReportView) (e : fiber_in r f ≡ o) → (by_fiber o e).origin ≡ b
      by_fiber_origin None e = refl
      by_fiber_origin (Some x) e = by_begin_origin x e (begins x e).term

      abbrev from_here : OtherRun f
      from_here = by_fiber (fiber_in r f) refl

      from_here_origin : from_here.origin ≡ b
      from_here_origin = by_fiber_origin (fiber_in r f) refl

    main_begins : (x : FiberReportView) → fiber_in r 0 ≡ Some x → BeginsSo 0 (main_origin term')
    main_begins x at =
        record {
          term = by_main begins_main;
          next_is = ap (λ (b : Origin). b.next) lawful.origins.main;
          end_is = ap (λ (b : Origin). b.end) lawful.origins.main ∙ ap (λ (n : ℕ). 1 + n) same_need;
        }
      where
        by_term : BeginsOtherwise Pair (lawful.runs.origin 0).term term' → IsBegun 0 term'
        by_term (other p) = looks_there (looked 0 x at term' p)
        by_term (within q) = runs_there q

        by_main : IsLooked 0 term' ⊎ BeginsOtherwise Pair s.term term' → IsBegun 0 term'
        by_main (inl l) = looks_there l
        by_main (inr h) = by_term (subst (λ (b : Origin). BeginsOtherwise Pair b.term term') (sym lawful.origins.main) h)

    abbrev main_run : OtherRun 0
    main_run = from_here 0 (main_origin term') main_begins

    -- what a child begins with, by the labels of its parent
    abbrev or_else : Origin → Option Origin → Origin
    or_else b None = b
    or_else b (Some a) = a

    parent_is : (f p : ℕ) (x : FiberReportView) → fiber_in r f ≡ Some x → parent_in r f ≡ Some p → x.parent ≡ Some p
    parent_is f p x at is = sym (ap parent_of_report at) ∙ is

    -- who has a parent is not the main fiber, and the parent is in the report
    parent_told : (f p : ℕ) (x : FiberReportView) → fiber_in r f ≡ Some x → parent_in r f ≡ Some p → (y : FiberReportView) × (fiber_in r p ≡ Some y)
    parent_told f p x at is = elim (cases_eq f 0) [
      | inl e ↦
          (let main = lawful.starters.main in
          let here : parent_in r 0 ≡ None = ap parent_of_report main.1 ∙ main.2 in
          let there : parent_in r 0 ≡ Some p = ap (parent_in r) (sym e) ∙ is in
          absurd (none-some p (sym here ∙ there)))
      | inr ne ↦
          (let h = lawful.starters.others f x at ne in
          let same : h.0 ≡ p = same_Some h.0 p (sym h.2 ∙ parent_is f p x at is) in
          (h.1, ap (fiber_in r) (sym same) ∙ h.3))
    ]

    child_like : (f p : ℕ) (n : OtherRun p) (x : FiberReportView) → fiber_in r f ≡ Some x → parent_in r f ≡ Some p
        → IsFoundLike Pair (lawful.runs.origin f) n.labels f
    child_like f p n x at is =
        let y = parent_told f p x at is in
        let once = started_once s r lawful.starters lawful.runs lawful.origins f p x y.0 at (parent_is f p x at is) y.1 in
        let h = lawful.runs.run p y.0 y.1 in
        let all = run_starts (lawful.runs.origin p) (lawful.runs.labels p) (lawful.runs.counts p) (lawful.runs.progress p) h.run in
        let found = found_by_trace (lawful.runs.origin p).next (lawful.runs.labels p) f 0 all (ap (starts_of f) h.trace ∙ once) in
        let begins : lawful.runs.origin f ≡ found.0 =
        begins_found lawful.runs.origin f found.0 (lawful.runs.labels p) (lawful.origins.child p y.0 y.1) found.1 in
        found_too f (lawful.runs.origin f) (lawful.runs.labels p) n.labels (n.told y.0 y.1).like (found.1 ∙ ap Some (sym begins))

    abbrev child_origin_of : (f p : ℕ) → OtherRun p → Origin
    child_origin_of f p n = or_else (lawful.runs.origin f) (find_start f n.labels)

    found_is : (f p : ℕ) (n : OtherRun p) (b : Origin) → find_start f n.labels ≡ Some b → child_origin_of f p n ≡ b
    found_is f p n b e = ap (or_else (lawful.runs.origin f)) e

    child_begins_so : (f p : ℕ) → parent_in r f ≡ Some p → (n : OtherRun p) (x : FiberReportView) → fiber_in r f ≡ Some x
        → BeginsSo f (child_origin_of f p n)
    child_begins_so f p is n x at =
        let k = child_like f p n x at is in
        subst (λ (b : Origin). BeginsSo f b) (sym (found_is f p n k.origin k.found)) (begins_like f x at k.origin k.like)

    abbrev child_run : (f p : ℕ) → parent_in r f ≡ Some p → OtherRun p → OtherRun f
    child_run f p is n = from_here f (child_origin_of f p n) (child_begins_so f p is n)

    child_run_origin : (f p : ℕ) (is : parent_in r f ≡ Some p) (n : OtherRun p) → (child_run f p is n).origin ≡ child_origin_of f p n
    child_run_origin f p is n = from_here_origin f (child_origin_of f p n) (child_begins_so f p is n)

    -- a fiber that is not in the report, or has no parent
    no_run : (f : ℕ) → f ≢ 0 → parent_in r f ≡ None → OtherRun f
    no_run f ne is =
        from_here f (lawful.runs.origin f)
        (λ x at. absurd (let h = lawful.starters.others f x at ne in none-some h.0 (sym is ∙ ap parent_of_report at ∙ h.2)))

    parent_below : (f p : ℕ) → parent_in r f ≡ Some p → p < f
    parent_below f p is = by_report (fiber_in r f) refl
      where
        by_report : (o : Option FiberReportView) → fiber_in r f ≡ o → p < f
        by_report None e = absurd (none-some p (sym (ap parent_of_report e) ∙ is))
        by_report (Some x) e =
            let y = parent_told f p x e is in
            let above = numbers_above s r lawful.starters lawful.runs lawful.origins p y.0 y.1 in
            let least = (child_begins s r lawful.starters lawful.runs lawful.origins f p x y.0 e (parent_is f p x e is) y.1).least in
            omega arith

    -- from what those before it did
    abbrev Before : ℕ → Type 0
    Before f = (p : ℕ) → p < f → OtherRun p

    abbrev by_parent : (f : ℕ) → f ≢ 0 → (o : Option ℕ) → parent_in r f ≡ o → Before f → OtherRun f
    by_parent f ne None is before = no_run f ne is
    by_parent f ne (Some p) is before = child_run f p is (before p (parent_below f p is))

    not_main : (f : ℕ) → suc f ≢ 0
    not_main f e = absurd (omega (arith, e))

    abbrev next_run : (f : ℕ) → Before f → OtherRun f
    next_run zero before = main_run
    next_run (suc f) before = by_parent (suc f) (not_main f) (parent_in r (suc f)) refl before

    by_parent_same : (f : ℕ) (ne : f ≢ 0) (o : Option ℕ) (is : parent_in r f ≡ o) (before before' : Before f)
        → ((p : ℕ) (h : p < f) → before p h ≡ before' p h) → by_parent f ne o is before ≡ by_parent f ne o is before'
    by_parent_same f ne None is before before' same = refl
    by_parent_same f ne (Some p) is before before' same = ap (child_run f p is) (same p (parent_below f p is))

    next_same : (f : ℕ) (before before' : Before f) → ((p : ℕ) (h : p < f) → before p h ≡ before' p h) → next_run f before ≡ next_run f before'
    next_same zero before before' same = refl
    next_same (suc f) before before' same = by_parent_same (suc f) (not_main f) (parent_in r (suc f)) refl before before' same

    earlier : (n f p : ℕ) → f < suc n → p < f → p < n
    earlier n f p lt h = omega arith

    abbrev run_within : (n f : ℕ) → f < n → OtherRun f
    run_within zero f lt = absurd (omega (arith, lt))
    run_within (suc n) f lt = next_run f (λ p h. run_within n p (earlier n f p lt h))

    within_same : (n m f : ℕ) (lt : f < n) (lt' : f < m) → run_within n f lt ≡ run_within m f lt'
    within_same zero m f lt lt' = absurd (omega (arith, lt))
    within_same (suc n) zero f lt lt' = absurd (omega (arith, lt'))
    within_same (suc n) (suc m) f lt lt' =
        next_same f (λ p h. run_within n p (earlier n f p lt h)) (λ p h. run_within m p (earlier m f p lt' h))
        (λ p h. within_same n m p (earlier n f p lt h) (earlier m f p lt' h))

    itself_below : (f : ℕ) → f < suc f
    itself_below f = omega arith

    abbrev run_of : (f : ℕ) → OtherRun f
    run_of f = run_within (suc f) f (itself_below f)

    -- a child begins as the labels of its parent say
    parent_origin : (f : ℕ) (ne : f ≢ 0) (o : Option ℕ) (e : parent_in r f ≡ o) (p : ℕ) → parent_in r f ≡ Some p → (before : Before f)
        → ((q : ℕ) → q ≡ p → (h : q < f) → child_origin_of f q (before q h) ≡ child_origin_of f p (run_of p))
        → (by_parent f ne o e before).origin ≡ child_origin_of f p (run_of p)
    parent_origin f ne None e p is before same = absurd (none-some p (sym e ∙ is))
    parent_origin f ne (Some q) e p is before same =
        child_run_origin f q e (before q (parent_below f q e)) ∙ same q (same_Some q p (sym e ∙ is)) (parent_below f q e)

    same_within : (n f p q : ℕ) → q ≡ p → (lt : q < n) → child_origin_of f q (run_within n q lt) ≡ child_origin_of f p (run_of p)
    same_within n f p q e =
        subst (λ (g : ℕ). (lt : g < n) → child_origin_of f g (run_within n g lt) ≡ child_origin_of f p (run_of p)) (sym e)
        (λ lt. ap (child_origin_of f p) (within_same n (suc p) p lt (itself_below p)))

    child_origin_is : (f p : ℕ) → parent_in r f ≡ Some p → (run_of f).origin ≡ child_origin_of f p (run_of p)
    child_origin_is zero p is = absurd (let h = parent_below zero p is in omega (arith, h))
    child_origin_is (suc f) p is =
        parent_origin (suc f) (not_main f) (parent_in r (suc f)) refl p is (λ q h. run_within (suc f) q (earlier (suc f) (suc f) q (itself_below (suc f)) h))
        (λ q e h. same_within (suc f) (suc f) p q e (earlier (suc f) (suc f) q (itself_below (suc f)) h))

    pub other_runs : OtherRuns
    other_runs =
        record {
          run_of = run_of;
          main_is = from_here_origin 0 (main_origin term') main_begins;
          begins = λ f p b is e. child_origin_is f p is ∙ found_is f p (run_of p) b e;
        }
