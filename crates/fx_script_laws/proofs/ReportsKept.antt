-- Each lawful report of the one script is one of the other.
use Rattle.std.proofs.Common.{◌≡◌, ◌≢◌, ℕ, zero, suc, ◌+◌, ◌==◌, ◌<◌, ◌≤◌, Bool, true, false, if◌then◌else◌, Option, Some, None, List, [], ◌∷◌, All}
use Rattle.std.proofs.Common.{refl, sym, ◌∙◌, ap, subst, arith, inl, inr}
use Rattle.std.specs.Prelude.{length, slice_get}
use Rattle.std.proofs.lemmas.Bool.{eqb-true, cases_eq}
use Rattle.std.proofs.lemmas.Option.{none-some, same_Some}
use Rattle.fx_term.specs.declared.outcome.Outcome.{Outcome}
use Rattle.fx_term.specs.declared.event.Event.{Event}
use Rattle.fx_term.specs.Term.{Term}
use Rattle.fx_term.specs.Need.{need}
use Rattle.fx_term.specs.Script.{ScriptView}
use Rattle.fx_model.specs.Row.{Counts, Label, Silent, Shows, Learns, Starts}
use Rattle.fx_model.specs.Origin.{Origin, main_origin}
use Rattle.fx_model.specs.Step.{Progress, Runs, Step, has_ended}
use Rattle.fx_model.specs.Run.{first_counts, Leads, IsRun, shown, events}
use Rattle.std.proofs.lemmas.List.Elements.{All-nil, All-cons, All-head, All-tail}
use Rattle.fx_model.specs.Outside.{Outside, can_step}
use Rattle.fx_model.specs.Report.{FiberReportView, ReportView, fiber_in, parent_in, trace_in, parent_of_report, trace_of_report, final_outside}
use Rattle.fx_model.specs.LawfulReport.{starts_of, is_parent, HasRun, HasRuns, BeginsAs, HasOrigins, IsLearnt, IsSeenRightly, IsLawfulReport}
use Rattle.fx_model.specs.Causes.{IsEvent, Needs, taken_element, end_of_other, start, LeavesQueue, CausesComeFirst, IsLawfulInOneOrder}
use Rattle.fx_model.specs.Happenings.{IsLawfulInOneList}
use Rattle.fx_model.proofs.StartLaws.{run_starts}
use Rattle.fx_model.proofs.HeadlineLaws.{started_once, child_begins, numbers_above}
use Rattle.fx_script_laws.specs.Cover.{Cover, uncovered}
use Rattle.fx_script_laws.specs.Filled.{none_bound, IsFilled}
use Rattle.fx_script_laws.specs.Interchange.{StopsThere, CanComeLike, AreFilledOrigins, AreFilledLabels, itself, starts, AllFilled, none, more}
use Rattle.fx_script_laws.proofs.Holes.{ArePut, filled_need}
use Rattle.fx_script_laws.proofs.FilledSteps.{runs}
use Rattle.fx_script_laws.proofs.Interchanged.{AreEndsKept, PairsCome, filled_come}
use Rattle.fx_script_laws.proofs.StartsFound.{find_start, IsFoundToo, found_too, found_by_trace, begins_found, traced, all_begin, all_kept, same_events}

-- what holds of a fiber holds of what it starts, too
abbrev pub HoldsOfStarts : (Counts → Progress → Type 0) → Label → Type 0
HoldsOfStarts Holds (Starts f b) = Holds (first_counts b) (Runs b.term)
HoldsOfStarts Holds _ = Unit {0}

-- something that holds of fibers from their begin on
pub record IsKeptByRuns (Holds : Counts → Progress → Type 0) : Type 0 where
  pub steps : (c d : Counts) (p q : Progress) (l : Label) → Holds c p → Step c p l d q → Holds d q
  pub starts : (c d : Counts) (p q : Progress) (l : Label) → Holds c p → Step c p l d q → HoldsOfStarts Holds l

module _ {Holds : Counts → Progress → Type 0} (is : IsKeptByRuns Holds) where
  all_hold : (ls : List Label) (c d : Counts) (p q : Progress) → Holds c p → Leads c p ls d q → All (HoldsOfStarts Holds) ls
  all_hold [] c d p q h k = All-nil (HoldsOfStarts Holds)
  all_hold (l ∷ ls) c d p q h k =
      All-cons (HoldsOfStarts Holds) l ls (is.starts c k.0 p k.1 l h k.2) (all_hold ls k.0 d k.1 q (is.steps c k.0 p k.1 l h k.2) k.3)

  found_holds : (f : ℕ) (b : Origin) (ls : List Label) → All (HoldsOfStarts Holds) ls → find_start f ls ≡ Some b → Holds (first_counts b) (Runs b.term)
  found_holds f b [] h e = absurd (none-some b e)
  found_holds f b (Silent ∷ ls) h e = found_holds f b ls (All-tail (HoldsOfStarts Holds) Silent ls h) e
  found_holds f b (Shows v ∷ ls) h e = found_holds f b ls (All-tail (HoldsOfStarts Holds) (Shows v) ls h) e
  found_holds f b (Learns g o v ∷ ls) h e = found_holds f b ls (All-tail (HoldsOfStarts Holds) (Learns g o v) ls h) e
  found_holds f b (Starts g a ∷ ls) h e = by_test (g == f) refl (found_holds f b ls (All-tail (HoldsOfStarts Holds) (Starts g a) ls h))
    where
      by_test : (t : Bool) → (g == f) ≡ t → (find_start f ls ≡ Some b → Holds (first_counts b) (Runs b.term)) → Holds (first_counts b) (Runs b.term)
      by_test true p rest =
          let first : Some a ≡ Some b = rw p at e in
          subst (λ (x : Origin). Holds (first_counts x) (Runs x.term)) (same_Some a b first) (All-head (HoldsOfStarts Holds) (Starts g a) ls h)
      by_test false p rest = rest (rw p at e)

  -- of each fiber of a lawful report, where it holds of main
  module _ (s : ScriptView) (may : ℕ → Bool) (r : ReportView) (lawful : IsLawfulReport s may r)
      (main : Holds (first_counts (main_origin s.term)) (Runs s.term)) where
    abbrev HoldsOf : ℕ → Type 0
    HoldsOf f = (x : FiberReportView) → fiber_in r f ≡ Some x → Holds (first_counts (lawful.runs.origin f)) (Runs (lawful.runs.origin f).term)

    of_main : HoldsOf 0
    of_main x at = subst (λ (b : Origin). Holds (first_counts b) (Runs b.term)) (sym lawful.origins.main) main

    of_child : (f p : ℕ) (x y : FiberReportView) → fiber_in r f ≡ Some x → x.parent ≡ Some p → fiber_in r p ≡ Some y
        → Holds (first_counts (lawful.runs.origin p)) (Runs (lawful.runs.origin p).term)
        → Holds (first_counts (lawful.runs.origin f)) (Runs (lawful.runs.origin f).term)
    of_child f p x y at parent told holds =
        let once = started_once s r lawful.starters lawful.runs lawful.origins f p x y at parent told in
        let h = lawful.runs.run p y told in
        let all = run_starts (lawful.runs.origin p) (lawful.runs.labels p) (lawful.runs.counts p) (lawful.runs.progress p) h.run in
        let found = found_by_trace (lawful.runs.origin p).next (lawful.runs.labels p) f 0 all (ap (starts_of f) h.trace ∙ once) in
        let begins : lawful.runs.origin f ≡ found.0 =
        begins_found lawful.runs.origin f found.0 (lawful.runs.labels p) (lawful.origins.child p y told) found.1 in
        let here = all_hold (lawful.runs.labels p) (first_counts (lawful.runs.origin p)) (lawful.runs.counts p) (Runs (lawful.runs.origin p).term)
        (lawful.runs.progress p) holds h.run in
        subst (λ (b : Origin). Holds (first_counts b) (Runs b.term)) (sym begins) (found_holds f found.0 (lawful.runs.labels p) here found.1)

    lower : (f p : ℕ) (x y : FiberReportView) → fiber_in r f ≡ Some x → x.parent ≡ Some p → fiber_in r p ≡ Some y → p < f
    lower f p x y at parent told =
        let above = numbers_above s r lawful.starters lawful.runs lawful.origins p y told in
        let least = (child_begins s r lawful.starters lawful.runs lawful.origins f p x y at parent told).least in
        omega arith

    within : (n f : ℕ) → f < n → HoldsOf f
    within zero f lt x at = absurd (omega (arith, lt))
    within (suc n) f lt x at = elim (cases_eq f 0) [
      | inl e ↦ subst HoldsOf (sym e) of_main x at
      | inr ne ↦
          (let h = lawful.starters.others f x at ne in
          let below = lower f h.0 x h.1 at h.2 h.3 in
          of_child f h.0 x h.1 at h.2 h.3 (within n h.0 (omega arith) h.1 h.3))
    ]

    pub holds_of : (f : ℕ) → HoldsOf f
    holds_of f = within (suc f) f (omega arith)

module _ {Pair : Cover → (ℕ → Bool) → Term → Term → Type 0} (puts : ArePut Pair)
    (needs : (s : Cover) (v : ℕ → Bool) (t u : Term) → Pair s v t u → need t ≡ need u) (kept : (o : Outside) (f : ℕ) (ended : Bool)
    → AreEndsKept Pair (StopsThere o f ended))
    {Holds : Counts → Progress → Type 0} (is_kept : IsKeptByRuns Holds) (pairs : (o : Outside) (f : ℕ) (ended : Bool)
    → PairsCome Pair (StopsThere o f ended) Holds) where
  same_first : (b b' : Origin) → AreFilledOrigins Pair b b' → first_counts b ≡ first_counts b'
  same_first b b' s = let p = s.next_is in let q = s.end_is in cc

  -- a run that ends where it cannot step has such a run of the other fiber
  run_too : (o : Outside) (f : ℕ) (b b' : Origin) → Holds (first_counts b) (Runs b.term) → Holds (first_counts b') (Runs b'.term)
      → AreFilledOrigins Pair b b'
      → (ls : List Label) (c : Counts) (p : Progress) → IsRun b ls c p
      → can_step o f c p ≡ false → CanComeLike Pair (StopsThere o f (has_ended p)) (first_counts b') (Runs b'.term) (shown ls)
  run_too o f b b' now now' s ls c p run unable =
      let there = subst (λ (d : Counts). Holds d (Runs b'.term)) (sym (same_first b b' s)) now' in
      subst (λ (d : Counts). CanComeLike Pair (StopsThere o f (has_ended p)) d (Runs b'.term) (shown ls)) (same_first b b' s)
      (filled_come puts needs (kept o f (has_ended p)) is_kept.steps (pairs o f (has_ended p)) (first_counts b) (Runs b.term) (Runs b'.term)
      (runs s.term) now there ls c p run
      (unable, refl))

  module _ (s : ScriptView) (other : Term) (may : ℕ → Bool) (r : ReportView) (lawful : IsLawfulReport s may r)
      (terms : IsFilled Pair uncovered none_bound s.term other) (main : Holds (first_counts (main_origin s.term)) (Runs s.term))
      (main' : Holds (first_counts (main_origin other)) (Runs other)) where
    -- the script with the other term
    abbrev s' : ScriptView
    s' = record { term = other; capacities = s.capacities }

    abbrev outside : Outside
    outside = final_outside s r

    -- what fiber f did, of which the report tells, does this run of the other script's fiber too
    record IsTold (f : ℕ) (origin : Origin) (labels : List Label) (counts : Counts) (progress : Progress) : Type 0 where
      pub begins : AreFilledOrigins Pair (lawful.runs.origin f) origin
      pub holds : Holds (first_counts origin) (Runs origin.term)
      pub run : IsRun origin labels counts progress
      pub like : AllFilled Pair (shown (lawful.runs.labels f)) (shown labels)
      pub unable : can_step outside f counts progress ≡ false
      pub state : has_ended progress ≡ has_ended (lawful.runs.progress f)

    record NewRun (f : ℕ) : Type 0 where
      pub origin : Origin
      pub labels : List Label
      pub counts : Counts
      pub progress : Progress
      pub told : (x : FiberReportView) → fiber_in r f ≡ Some x → IsTold f origin labels counts progress

    -- what begins so
    module _ (f : ℕ) (b : Origin) (begins : (x : FiberReportView) → fiber_in r f ≡ Some x → AreFilledOrigins Pair (lawful.runs.origin f) b)
        (now : (x : FiberReportView) → fiber_in r f ≡ Some x → Holds (first_counts b) (Runs b.term)) where
      abbrev by_fiber : (o : Option FiberReportView) → fiber_in r f ≡ o → NewRun f
      by_fiber None e =
          record {
            origin = b;
            labels = [];
            counts = first_counts b;
            progress = Runs b.term;
            told = λ x at. absurd (none-some x (sym e ∙ at));
          }
      by_fiber (Some x) e =
          let h = lawful.runs.run f x e in
          let k = run_too outside f (lawful.runs.origin f) b (holds_of is_kept s may r lawful main f x e) (now x e) (begins x e)
          (lawful.runs.labels f) (lawful.runs.counts f)
          (lawful.runs.progress f) h.run
          h.unable in
          record {
            origin = b;
            labels = k.labels;
            counts = k.counts;
            progress = k.progress;
            told = λ y at. record { begins = begins x e; holds = now x e; run = k.run; like = k.like; unable = k.ends.0; state = k.ends.1 };
          }

      by_fiber_origin : (o : Option FiberReportView) (e : fiber_in r f ≡ o) → (by_fiber o e).origin ≡ b
      by_fiber_origin None e = refl
      by_fiber_origin (Some x) e = refl

      abbrev from_here : NewRun f
      from_here = by_fiber (fiber_in r f) refl

      from_here_origin : from_here.origin ≡ b
      from_here_origin = by_fiber_origin (fiber_in r f) refl

    main_begins : AreFilledOrigins Pair (lawful.runs.origin 0) (main_origin other)
    main_begins =
        let same : need s.term ≡ need other = filled_need needs terms in
        let at : AreFilledOrigins Pair (main_origin s.term) (main_origin other) = record { term = terms; next_is = refl; end_is = rw same refl } in
        subst (λ (b : Origin). AreFilledOrigins Pair b (main_origin other)) (sym lawful.origins.main) at

    abbrev main_run : NewRun 0
    main_run = from_here 0 (main_origin other) (λ x at. main_begins) (λ x at. main')

    -- what a child begins with, by the labels of its parent
    abbrev or_else : Origin → Option Origin → Origin
    or_else b None = b
    or_else b (Some a) = a

    parent_is : (f p : ℕ) (x : FiberReportView) → fiber_in r f ≡ Some x → parent_in r f ≡ Some p → x.parent ≡ Some p
    parent_is f p x at is = sym (ap parent_of_report at) ∙ is

    -- who has a parent is not the main fiber, and the parent is in the report
    parent_told : (f p : ℕ) (x : FiberReportView) → fiber_in r f ≡ Some x → parent_in r f ≡ Some p → (y : FiberReportView) × (fiber_in r p ≡ Some y)
    parent_told f p x at is = elim (cases_eq f 0) [
      | inl e ↦
          (let main = lawful.starters.main in
          let here : parent_in r 0 ≡ None = ap parent_of_report main.1 ∙ main.2 in
          let there : parent_in r 0 ≡ Some p = ap (parent_in r) (sym e) ∙ is in
          absurd (none-some p (sym here ∙ there)))
      | inr ne ↦
          (let h = lawful.starters.others f x at ne in
          let same : h.0 ≡ p = same_Some h.0 p (sym h.2 ∙ parent_is f p x at is) in
          (h.1, ap (fiber_in r) (sym same) ∙ h.3))
    ]

    child_like : (f p : ℕ) (n : NewRun p) (x : FiberReportView) → fiber_in r f ≡ Some x → parent_in r f ≡ Some p
        → IsFoundToo Pair (lawful.runs.origin f) n.labels f
    child_like f p n x at is =
        let y = parent_told f p x at is in
        let once = started_once s r lawful.starters lawful.runs lawful.origins f p x y.0 at (parent_is f p x at is) y.1 in
        let h = lawful.runs.run p y.0 y.1 in
        let all = run_starts (lawful.runs.origin p) (lawful.runs.labels p) (lawful.runs.counts p) (lawful.runs.progress p) h.run in
        let found = found_by_trace (lawful.runs.origin p).next (lawful.runs.labels p) f 0 all (ap (starts_of f) h.trace ∙ once) in
        let begins : lawful.runs.origin f ≡ found.0 =
        begins_found lawful.runs.origin f found.0 (lawful.runs.labels p) (lawful.origins.child p y.0 y.1) found.1 in
        found_too Pair f (lawful.runs.origin f) (lawful.runs.labels p) n.labels (n.told y.0 y.1).like (found.1 ∙ ap Some (sym begins))

    abbrev child_origin_of : (f p : ℕ) → NewRun p → Origin
    child_origin_of f p n = or_else (lawful.runs.origin f) (find_start f n.labels)

    found_is : (f p : ℕ) (n : NewRun p) (b : Origin) → find_start f n.labels ≡ Some b → child_origin_of f p n ≡ b
    found_is f p n b e = ap (or_else (lawful.runs.origin f)) e

    child_begins_so : (f p : ℕ) → parent_in r f ≡ Some p → (n : NewRun p) (x : FiberReportView) → fiber_in r f ≡ Some x
        → AreFilledOrigins Pair (lawful.runs.origin f) (child_origin_of f p n)
    child_begins_so f p is n x at =
        let k = child_like f p n x at is in
        subst (λ (b : Origin). AreFilledOrigins Pair (lawful.runs.origin f) b) (sym (found_is f p n k.origin k.found)) k.like

    child_holds : (f p : ℕ) → parent_in r f ≡ Some p → (n : NewRun p) (x : FiberReportView) → fiber_in r f ≡ Some x
        → Holds (first_counts (child_origin_of f p n)) (Runs (child_origin_of f p n).term)
    child_holds f p is n x at =
        let k = child_like f p n x at is in
        let y = parent_told f p x at is in
        let t = n.told y.0 y.1 in
        let all = all_hold is_kept n.labels (first_counts n.origin) n.counts (Runs n.origin.term) n.progress t.holds t.run in
        subst (λ (b : Origin). Holds (first_counts b) (Runs b.term)) (sym (found_is f p n k.origin k.found))
        (found_holds is_kept f k.origin n.labels all k.found)

    abbrev child_run : (f p : ℕ) → parent_in r f ≡ Some p → NewRun p → NewRun f
    child_run f p is n = from_here f (child_origin_of f p n) (child_begins_so f p is n) (child_holds f p is n)

    child_run_origin : (f p : ℕ) (is : parent_in r f ≡ Some p) (n : NewRun p) → (child_run f p is n).origin ≡ child_origin_of f p n
    child_run_origin f p is n =
        from_here_origin f (child_origin_of f p n) (child_begins_so f p is n) (child_holds f p is n)

    -- a fiber that is not in the report, or has no parent
    no_run : (f : ℕ) → f ≢ 0 → parent_in r f ≡ None → NewRun f
    no_run f ne is =
        from_here f (lawful.runs.origin f)
        (λ x at. absurd (let h = lawful.starters.others f x at ne in none-some h.0 (sym is ∙ ap parent_of_report at ∙ h.2)))
        (λ x at. holds_of is_kept s may r lawful main f x at)

    parent_below : (f p : ℕ) → parent_in r f ≡ Some p → p < f
    parent_below f p is = by_report (fiber_in r f) refl
      where
        by_report : (o : Option FiberReportView) → fiber_in r f ≡ o → p < f
        by_report None e = absurd (none-some p (sym (ap parent_of_report e) ∙ is))
        by_report (Some x) e =
            let y = parent_told f p x e is in
            let above = numbers_above s r lawful.starters lawful.runs lawful.origins p y.0 y.1 in
            let least = (child_begins s r lawful.starters lawful.runs lawful.origins f p x y.0 e (parent_is f p x e is) y.1).least in
            omega arith

    -- from what those before it did
    abbrev Before : ℕ → Type 0
    Before f = (p : ℕ) → p < f → NewRun p

    abbrev by_parent : (f : ℕ) → f ≢ 0 → (o : Option ℕ) → parent_in r f ≡ o → Before f → NewRun f
    by_parent f ne None is before = no_run f ne is
    by_parent f ne (Some p) is before = child_run f p is (before p (parent_below f p is))

    not_main : (f : ℕ) → suc f ≢ 0
    not_main f e = absurd (omega (arith, e))

    abbrev next_run : (f : ℕ) → Before f → NewRun f
    next_run zero before = main_run
    next_run (suc f) before = by_parent (suc f) (not_main f) (parent_in r (suc f)) refl before

    by_parent_same : (f : ℕ) (ne : f ≢ 0) (o : Option ℕ) (is : parent_in r f ≡ o) (before before' : Before f)
        → ((p : ℕ) (h : p < f) → before p h ≡ before' p h) → by_parent f ne o is before ≡ by_parent f ne o is before'
    by_parent_same f ne None is before before' same = refl
    by_parent_same f ne (Some p) is before before' same = ap (child_run f p is) (same p (parent_below f p is))

    next_same : (f : ℕ) (before before' : Before f) → ((p : ℕ) (h : p < f) → before p h ≡ before' p h) → next_run f before ≡ next_run f before'
    next_same zero before before' same = refl
    next_same (suc f) before before' same = by_parent_same (suc f) (not_main f) (parent_in r (suc f)) refl before before' same

    earlier : (n f p : ℕ) → f < suc n → p < f → p < n
    earlier n f p lt h = omega arith

    abbrev run_within : (n f : ℕ) → f < n → NewRun f
    run_within zero f lt = absurd (omega (arith, lt))
    run_within (suc n) f lt = next_run f (λ p h. run_within n p (earlier n f p lt h))

    within_same : (n m f : ℕ) (lt : f < n) (lt' : f < m) → run_within n f lt ≡ run_within m f lt'
    within_same zero m f lt lt' = absurd (omega (arith, lt))
    within_same (suc n) zero f lt lt' = absurd (omega (arith, lt'))
    within_same (suc n) (suc m) f lt lt' =
        next_same f (λ p h. run_within n p (earlier n f p lt h)) (λ p h. run_within m p (earlier m f p lt' h))
        (λ p h. within_same n m p (earlier n f p lt h) (earlier m f p lt' h))

    itself_below : (f : ℕ) → f < suc f
    itself_below f = omega arith

    abbrev run_of : (f : ℕ) → NewRun f
    run_of f = run_within (suc f) f (itself_below f)

    -- a child begins as the labels of its parent say
    parent_origin : (f : ℕ) (ne : f ≢ 0) (o : Option ℕ) (e : parent_in r f ≡ o) (p : ℕ) → parent_in r f ≡ Some p → (before : Before f)
        → ((q : ℕ) → q ≡ p → (h : q < f) → child_origin_of f q (before q h) ≡ child_origin_of f p (run_of p))
        → (by_parent f ne o e before).origin ≡ child_origin_of f p (run_of p)
    parent_origin f ne None e p is before same = absurd (none-some p (sym e ∙ is))
    parent_origin f ne (Some q) e p is before same =
        child_run_origin f q e (before q (parent_below f q e)) ∙ same q (same_Some q p (sym e ∙ is)) (parent_below f q e)

    same_within : (n f p q : ℕ) → q ≡ p → (lt : q < n) → child_origin_of f q (run_within n q lt) ≡ child_origin_of f p (run_of p)
    same_within n f p q e =
        subst (λ (g : ℕ). (lt : g < n) → child_origin_of f g (run_within n g lt) ≡ child_origin_of f p (run_of p)) (sym e)
        (λ lt. ap (child_origin_of f p) (within_same n (suc p) p lt (itself_below p)))

    child_origin_is : (f p : ℕ) → parent_in r f ≡ Some p → (run_of f).origin ≡ child_origin_of f p (run_of p)
    child_origin_is zero p is = absurd (let h = parent_below zero p is in omega (arith, h))
    child_origin_is (suc f) p is =
        parent_origin (suc f) (not_main f) (parent_in r (suc f)) refl p is (λ q h. run_within (suc f) q (earlier (suc f) (suc f) q (itself_below (suc f)) h))
        (λ q e h. same_within (suc f) (suc f) p q e (earlier (suc f) (suc f) q (itself_below (suc f)) h))

    main_origin_is : (run_of 0).origin ≡ main_origin other
    main_origin_is = from_here_origin 0 (main_origin other) (λ x at. main_begins) (λ x at. main')

    trace_too : (f : ℕ) (x : FiberReportView) → fiber_in r f ≡ Some x → events (run_of f).labels ≡ x.trace
    trace_too f x at =
        sym (same_events (lawful.runs.labels f) (run_of f).labels ((run_of f).told x at).like) ∙ (lawful.runs.run f x at).trace

    has_run : (f : ℕ) (x : FiberReportView) → fiber_in r f ≡ Some x
        → HasRun s' r f x (run_of f).origin (run_of f).labels (run_of f).counts (run_of f).progress
    has_run f x at =
        let k = (run_of f).told x at in
        record {
          run = k.run;
          trace = trace_too f x at;
          state = k.state ∙ (lawful.runs.run f x at).state;
          unable = k.unable;
        }

    abbrev new_runs : HasRuns s' r
    new_runs =
        record {
          origin = λ f. (run_of f).origin;
          labels = λ f. (run_of f).labels;
          counts = λ f. (run_of f).counts;
          progress = λ f. (run_of f).progress;
          run = has_run;
        }

    -- each fiber is started once at most, and by its parent
    started_by : (g f n : ℕ) (t : Bool) → is_parent (parent_in r g) f ≡ t → n ≡ (if t then 1 else 0) → n ≤ 1
    started_by g f n true e h = omega (arith, h)
    started_by g f n false e h = omega (arith, h)

    is_started_by : (g f : ℕ) (o : Option ℕ) → parent_in r g ≡ o → 1 ≤ (if is_parent o f then 1 else 0) → o ≡ Some f
    is_started_by g f None e h = absurd (omega (arith, h))
    is_started_by g f (Some p) e h = by_test (p == f) refl
      where
        by_test : (t : Bool) → (p == f) ≡ t → Some p ≡ Some f
        by_test true q = ap Some (eqb-true p f q)
        by_test false q = absurd (let k : 1 ≤ 0 = rw q at h in omega (arith, k))

    new_origins : HasOrigins s' r new_runs
    new_origins = record { main = main_origin_is; child = begins }
      where
        once : (f : ℕ) (x : FiberReportView) → fiber_in r f ≡ Some x → (g : ℕ)
            → starts_of g (events (run_of f).labels) ≡ (if is_parent (parent_in r g) f then 1 else 0)
        once f x at g = ap (starts_of g) (trace_too f x at) ∙ lawful.starters.once f x at g

        begins : (f : ℕ) (x : FiberReportView) → fiber_in r f ≡ Some x → All (BeginsAs (λ g. (run_of g).origin)) (run_of f).labels
        begins f x at =
            all_begin (λ g. (run_of g).origin) (run_of f).labels
            (λ g. started_by g f (starts_of g (events (run_of f).labels)) (is_parent (parent_in r g) f) refl (once f x at g))
            (λ g b e. let many : 1 ≤ (if is_parent (parent_in r g) f then 1 else 0) =
            subst (λ (n : ℕ). 1 ≤ n) (once f x at g) (traced g b (run_of f).labels e) in
            let is = is_started_by g f (parent_in r g) refl many in
            child_origin_is g f is ∙ found_is g f (run_of f) b e)

    learnt_like : (l l' : Label) → AreFilledLabels Pair l l' → IsLearnt r l → IsLearnt r l'
    learnt_like l l' itself h = h
    learnt_like l l' (starts s) h = tt

    seen_like : (f : ℕ) (l l' : Label) → AreFilledLabels Pair l l' → IsSeenRightly r f l → IsSeenRightly r f l'
    seen_like f l l' itself h = h
    seen_like f l l' (starts s) h = tt

    abbrev report_here : IsLawfulReport s' may r
    report_here =
        record {
          starters = lawful.starters;
          runs = new_runs;
          origins = new_origins;
          left_by_queue = lawful.left_by_queue;
          histories = lawful.histories;
          learnt = λ f x at.
              all_kept (IsLearnt r) Pair learnt_like tt (lawful.runs.labels f) (run_of f).labels ((run_of f).told x at).like (lawful.learnt f x at);
          seen = λ f x at.
              all_kept (IsSeenRightly r f) Pair (seen_like f) tt (lawful.runs.labels f) (run_of f).labels ((run_of f).told x at).like (lawful.seen f x at);
          outside_ascending = lawful.outside_ascending;
          outside_named = λ f h. let k = lawful.outside_named f h in (subst (λ (n : ℕ). f < 1 + n) (filled_need needs terms) k.0, k.1);
        }

    -- the events that learn of an end are the same
    learns_at : {ls ls' : List Label} → AllFilled Pair ls ls' → (i g : ℕ) (o : Outcome) (e : Event) → slice_get ls' i ≡ Some (Learns g o e)
        → slice_get ls i ≡ Some (Learns g o e)
    learns_at none i g o e at = at
    learns_at (more itself q) zero g o e at = at
    learns_at (more (starts s) q) zero g o e at = absurd cc
    learns_at (more p q) (suc i) g o e at = learns_at q i g o e at

    is_told : (f i : ℕ) → IsEvent (trace_in r) f i → (x : FiberReportView) × (fiber_in r f ≡ Some x)
    is_told f i h = by_report (fiber_in r f) refl
      where
        by_report : (v : Option FiberReportView) → fiber_in r f ≡ v → (x : FiberReportView) × (fiber_in r f ≡ Some x)
        by_report None e = absurd (let k : i < length (trace_of_report None) = subst (λ (w : Option FiberReportView). i < length (trace_of_report w)) e h in
            omega (arith, k))
        by_report (Some x) e = (x, e)

    needs_too : (f i g j : ℕ) → IsEvent (trace_in r) f i → Needs (trace_in r) (λ h. (run_of h).labels) (LeavesQueue s may r lawful) f i g j
        → Needs (trace_in r) lawful.runs.labels (LeavesQueue s may r lawful) f i g j
    needs_too f i g j h (taken_element t) = taken_element t
    needs_too f i g j h (end_of_other t) =
        let x = is_told f i h in
        end_of_other (record {
          outcome = t.outcome;
          learning = t.learning;
          learns = learns_at ((run_of f).told x.0 x.1).like i g t.outcome t.learning t.learns;
          tells = t.tells;
          ended = t.ended;
        })
    needs_too f i g j h (start e k) = start e k

    -- an order of all events in which causes come first is one still
    abbrev causes_here : CausesComeFirst s may r lawful → CausesComeFirst s' may r report_here
    causes_here c =
        record {
          moment = c.moment;
          in_order = record {
            distinct = c.in_order.distinct;
            keeps = c.in_order.keeps;
            needed = λ f i g j h k n. c.in_order.needed f i g j h k (needs_too f i g j h n);
            requested = c.in_order.requested;
          };
        }

  module _ (s : ScriptView) (other : Term) (may : ℕ → Bool) (r : ReportView) (terms : IsFilled Pair uncovered none_bound s.term other)
      (main : Holds (first_counts (main_origin s.term)) (Runs s.term)) (main' : Holds (first_counts (main_origin other)) (Runs other)) where
    abbrev pub with_other : ScriptView
    with_other = record { term = other; capacities = s.capacities }

    pub report_kept : IsLawfulReport s may r → IsLawfulReport with_other may r
    report_kept lawful = report_here s other may r lawful terms main main'

    abbrev order_here : IsLawfulInOneOrder s may r → IsLawfulInOneOrder with_other may r
    order_here h =
        record { lawful = report_here s other may r h.lawful terms main main'; causes = causes_here s other may r h.lawful terms main main' h.causes }

    pub order_kept : IsLawfulInOneOrder s may r → IsLawfulInOneOrder with_other may r
    order_kept h = order_here h

    pub list_kept : IsLawfulInOneList s may r → IsLawfulInOneList with_other may r
    list_kept h = record { in_order = order_here h.in_order; list = h.list; listed = h.listed }
