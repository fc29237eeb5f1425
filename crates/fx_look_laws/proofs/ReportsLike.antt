-- To a lawful report of the one script there is one of the other that looks the same.
use Rattle.std.proofs.Common.{◌≡◌, ◌≢◌, ◌⊎◌, ℕ, ◌+◌, ◌==◌, ◌<◌, ◌≤◌, Bool, true, false, if◌then◌else◌, ◌||◌, Option, Some, None, List, [], ◌∷◌}
use Rattle.std.proofs.Common.{◌++◌, All, Contains, refl, sym, ◌∙◌, ap, subst, arith}
use Rattle.std.specs.List.{list_any}
use Rattle.std.proofs.lemmas.Bool.{eqb-true}
use Rattle.std.proofs.lemmas.List.Elements.{All-nil, All-cons, All-head, All-tail}
use Rattle.std.proofs.lemmas.Map.Views.{Contains-from_any}
use Rattle.std.proofs.lemmas.Option.{none-some, same_Some}
use mathlib.Core.Path.{fun_ext}
use Rattle.fx_term.specs.Need.{need}
use Rattle.fx_term.specs.Term.{Term}
use Rattle.fx_term.specs.Script.{ScriptView}
use Rattle.fx_term.specs.declared.outcome.Outcome.{Outcome}
use Rattle.fx_term.specs.declared.event.Event.{Event}
use Rattle.fx_term.specs.declared.event.Event.TheVariants as event
use Rattle.fx_model.specs.Row.{Label, Silent, Shows, Learns, Starts}
use Rattle.fx_model.specs.Step.{Runs}
use Rattle.fx_model.specs.Run.{first_counts, events}
use Rattle.fx_model.specs.Outside.{Outside, outcome_at, can_step}
use Rattle.fx_model.specs.Report.{FiberReportView, ReportView, fiber_in, parent_in, parent_of_report, trace_in, trace_of_report, outcome_shown}
use Rattle.fx_model.specs.Report.{is_request_for, is_requested_in, final_outside, capacity_of}
use Rattle.fx_model.specs.LawfulReport.{EndsWith, HasStarters, HasRuns, HasOrigins, BeginsAs, HasHistory, IsLearnt, IsSeenRightly, IsLawfulReport}
use Rattle.fx_model.specs.LawfulReport.{starts_of, is_parent}
use Rattle.fx_model.proofs.EventLabels.{run_is_proper}
use Rattle.fx_model.proofs.OutcomeLaws.{run_outcome, run_stops}
use Rattle.fx_script_laws.specs.Filled.{none_bound}
use Rattle.fx_look_laws.specs.LookAlike.{visible_events}
use Rattle.fx_script_laws.proofs.StartsFound.{traced, all_begin}
use Rattle.fx_look_laws.proofs.VisibleEvents.{same_starts, same_queues, same_outcome, visible_shown, all_seen, all_unseen, sees_request}
use Rattle.fx_look_laws.specs.OtherFibers.{BeginsOtherwise}
use Rattle.fx_look_laws.specs.FibersLookAlike.{HasReportWithFibersLike}
use Rattle.fx_look_laws.proofs.OtherTerms.{ArePutToo}
use Rattle.fx_look_laws.proofs.OtherRows.{AreLikeLabels, itself, starts}
use Rattle.fx_look_laws.proofs.LikeLabels.{events_like, all_like}
use Rattle.fx_look_laws.proofs.FiberNumbers.{number_within}
use Rattle.fx_look_laws.proofs.Requests.{can_same, known_unable, sees_known, unseen_rightly, asked_rightly}
use Rattle.fx_look_laws.proofs.FibersReplaced.{IsDoneSo, kept, looks_so, IsToldSo, OtherRuns}
use Rattle.fx_look_laws.proofs.TracesReplaced.{found_id, each_is_found, retraced, all_retraced, ids_same, found_too, absent_too, asks_same}
use Rattle.fx_look_laws.proofs.TracesReplaced.{numbers_that_pass, they_rise, any_passes, they_pass}

module _ (P Q : Label → Type 0) (by : (l : Label) → P l → Q l) where
  all_by : (ls : List Label) → All P ls → All Q ls
  all_by [] h = All-nil Q
  all_by (l ∷ ls) h = All-cons Q l ls (by l (All-head P l ls h)) (all_by ls (All-tail P l ls h))

-- the last of a list
abbrev last_or : Event → List Event → Event
last_or e [] = e
last_or e (x ∷ xs) = last_or x xs

last_is : (e a : Event) (xs : List Event) → last_or e (xs ++ a ∷ []) ≡ a
last_is e a [] = refl
last_is e a (x ∷ xs) = last_is x a xs

same_end : (xs ys : List Event) (o o' : Outcome) → xs ++ event.Ended o ∷ [] ≡ ys ++ event.Ended o' ∷ [] → o ≡ o'
same_end xs ys o o' e =
    let k : event.Ended o ≡ event.Ended o' =
    sym (last_is event.Seen (event.Ended o) xs) ∙ ap (last_or event.Seen) e ∙ last_is event.Seen (event.Ended o') ys in cc

-- a trace that ends with an end tells one
end_shown : (xs : List Event) (o : Outcome) → outcome_shown (xs ++ event.Ended o ∷ []) ≡ None → ⊥
end_shown [] o e = none-some o (sym e)
end_shown (event.Ended v ∷ xs) o e = none-some v (sym e)
end_shown (x ∷ xs) o e = by_event x e (λ h. end_shown xs o h)
  where
    by_event : (x : Event) → outcome_shown (x ∷ xs ++ event.Ended o ∷ []) ≡ None → (outcome_shown (xs ++ event.Ended o ∷ []) ≡ None → ⊥) → ⊥
    by_event (event.Ended v) h rest = none-some v (sym h)
    by_event _ h rest = rest h

or_none : (a b : Bool) → b ≡ false → (a || b) ≡ a
or_none true b e = refl
or_none false b e = e

or_either : (a b c : Bool) → (a || (b || c)) ≡ ((a || b) || c)
or_either true b c = refl
or_either false b c = refl

or_second : (a b : Bool) → b ≡ true → (a || b) ≡ true
or_second true b e = refl
or_second false b e = e

module _ (Pair : (ℕ → Bool) → Term → Term → Type 0) (puts : ArePutToo Pair) (needs : (v : ℕ → Bool) (t u : Term) → Pair v t u → need t ≡ need u)
    (s : ScriptView) (term' : Term) (may : ℕ → Bool) (r : ReportView) (lawful : IsLawfulReport s may r) (IsLooked : ℕ → Term → Type 0)
    (looked : (f : ℕ) (x : FiberReportView) → fiber_in r f ≡ Some x → (u : Term) → Pair none_bound (lawful.runs.origin f).term u → IsLooked f u)
    (begins_main : IsLooked 0 term' ⊎ BeginsOtherwise Pair s.term term') (same_need : need s.term ≡ need term')
    (runs' : OtherRuns Pair puts needs s term' may r lawful IsLooked looked begins_main same_need)
    (mays : (f : ℕ) (x : FiberReportView) → fiber_in r f ≡ Some x → (u : Term) → IsLooked f u → may f ≡ true) where
  abbrev s' : ScriptView
  s' = record { term = term'; capacities = s.capacities }

  abbrev Done : ℕ → Type 0
  Done f = let n = runs'.run_of f in IsDoneSo Pair puts needs s term' may r lawful IsLooked looked begins_main same_need f n.origin n.labels n.asks

  abbrev Told : ℕ → Type 0
  Told f =
      let n = runs'.run_of f in
      IsToldSo Pair puts needs s term' may r lawful IsLooked looked begins_main same_need f n.origin n.labels n.counts n.progress n.asks

  told : (f : ℕ) (x : FiberReportView) → fiber_in r f ≡ Some x → Told f
  told f x at = (runs'.run_of f).told x at

  abbrev new_trace : ℕ → List Event
  new_trace f = events (runs'.run_of f).labels

  -- others see the same of each fiber
  sees_same : (f : ℕ) (x : FiberReportView) → fiber_in r f ≡ Some x → visible_events (new_trace f) ≡ visible_events x.trace
  sees_same f x at =
      let n = runs'.run_of f in
      let h = lawful.runs.run f x at in
      let t = told f x at in
      sym (visible_shown n.labels (run_is_proper _ _ _ _ n.labels t.run)) ∙ sym (events_like t.like)
      ∙ visible_shown (lawful.runs.labels f) (run_is_proper _ _ _ _ (lawful.runs.labels f) h.run) ∙ ap visible_events h.trace

  -- who asks is in the report, and may be requested
  asks_told : (f : ℕ) → (runs'.run_of f).asks ≡ true → (x : FiberReportView) × (fiber_in r f ≡ Some x)
  asks_told f asks = by_report (fiber_in r f) refl
    where
      by_report : (o : Option FiberReportView) → fiber_in r f ≡ o → (x : FiberReportView) × (fiber_in r f ≡ Some x)
      by_report None e = absurd (let none = (runs'.run_of f).absent e in cc)
      by_report (Some x) e = (x, e)

  asks_may : (f : ℕ) → (runs'.run_of f).asks ≡ true → may f ≡ true
  asks_may f asks = let x = asks_told f asks in by_done x.0 x.1 (told f x.0 x.1).done
    where
      by_done : (x : FiberReportView) → fiber_in r f ≡ Some x
          → Done f → may f ≡ true
      by_done x at (kept q none) = absurd cc
      by_done x at (looks_so p is) = mays f x at (runs'.run_of f).origin.term p

  -- those who ask are requested from outside, too
  abbrev is_asked : ℕ → Bool
  is_asked f = list_any (λ g. g == f) r.outside || (runs'.run_of f).asks

  abbrev MayBeAsked : ℕ → Type 0
  MayBeAsked f = (f < 1 + need term') × (may f ≡ true)

  asked_may : (f : ℕ) → is_asked f ≡ true → MayBeAsked f
  asked_may f asked = by_test (list_any (λ g. g == f) r.outside) refl
    where
      by_test : (b : Bool) → list_any (λ g. g == f) r.outside ≡ b → MayBeAsked f
      by_test true is =
          let c : Contains r.outside f = Contains-from_any {eq = λ x y. y == x} (λ x y e. sym (eqb-true y x e)) f r.outside is in
          let h = lawful.outside_named f c in
          (subst (λ (n : ℕ). f < 1 + n) same_need h.0, h.1)
      by_test false is =
          let asks : (runs'.run_of f).asks ≡ true = rw is at asked in
          let x = asks_told f asks in
          (subst (λ (n : ℕ). f < 1 + n) same_need (number_within s may r lawful f x.0 x.1), asks_may f asks)

  asked_below : (f : ℕ) → is_asked f ≡ true → f < 1 + need term'
  asked_below f asked = (asked_may f asked).0

  abbrev outs : List ℕ
  outs = numbers_that_pass is_asked (1 + need term') asked_below

  outs_any : (f : ℕ) → list_any (λ g. g == f) outs ≡ is_asked f
  outs_any f = any_passes is_asked (1 + need term') asked_below f

  abbrev r' : ReportView
  r' = record { fibers = all_retraced new_trace r.fibers; left = r.left; outside = outs; late = r.late }

  fiber_too : (f : ℕ) (x : FiberReportView) → fiber_in r f ≡ Some x → fiber_in r' f ≡ Some (retraced new_trace x)
  fiber_too f x at = found_too new_trace f r.fibers x at

  -- each fiber of this report is one of that one, with another trace
  record IsOfReport (f : ℕ) (y : FiberReportView) : Type 0 where
    pub fiber : FiberReportView
    pub found : fiber_in r f ≡ Some fiber
    pub is : y ≡ retraced new_trace fiber
    pub trace_is : y.trace ≡ new_trace f

  of_report : (f : ℕ) (y : FiberReportView) → fiber_in r' f ≡ Some y → IsOfReport f y
  of_report f y at = by_report (fiber_in r f) refl
    where
      by_report : (o : Option FiberReportView) → fiber_in r f ≡ o → IsOfReport f y
      by_report None e = absurd (none-some y (sym (absent_too new_trace f r.fibers e) ∙ at))
      by_report (Some x) e =
          let same : y ≡ retraced new_trace x = sym (same_Some (retraced new_trace x) y (sym (fiber_too f x e) ∙ at)) in
          record {
            fiber = x;
            found = e;
            is = same;
            trace_is = ap (λ (z : FiberReportView). z.trace) same ∙ ap new_trace (found_id f r.fibers x e);
          }

  trace_too : (f : ℕ) (x : FiberReportView) → fiber_in r f ≡ Some x → trace_in r' f ≡ new_trace f
  trace_too f x at = ap trace_of_report (fiber_too f x at) ∙ ap new_trace (found_id f r.fibers x at)

  trace_visible : (f : ℕ) → visible_events (trace_in r' f) ≡ visible_events (trace_in r f)
  trace_visible f = by_report (fiber_in r f) refl
    where
      by_report : (o : Option FiberReportView) → fiber_in r f ≡ o → visible_events (trace_in r' f) ≡ visible_events (trace_in r f)
      by_report None e =
          ap (λ (z : Option FiberReportView). visible_events (trace_of_report z)) (absent_too new_trace f r.fibers e)
          ∙ sym (ap (λ (z : Option FiberReportView). visible_events (trace_of_report z)) e)
      by_report (Some x) e =
          ap visible_events (trace_too f x e) ∙ sees_same f x e ∙ sym (ap (λ (z : Option FiberReportView). visible_events (trace_of_report z)) e)

  parent_same : (f : ℕ) → parent_in r' f ≡ parent_in r f
  parent_same f = by_report (fiber_in r f) refl
    where
      by_report : (o : Option FiberReportView) → fiber_in r f ≡ o → parent_in r' f ≡ parent_in r f
      by_report None e = ap parent_of_report (absent_too new_trace f r.fibers e) ∙ sym (ap parent_of_report e)
      by_report (Some x) e = ap parent_of_report (fiber_too f x e) ∙ sym (ap parent_of_report e)

  -- requested are those of that report, and those who ask
  requested_too : (f : ℕ) → is_requested_in r' f ≡ (is_requested_in r f || (runs'.run_of f).asks)
  requested_too f =
      let inside : list_any (λ (x : FiberReportView). list_any (is_request_for f) x.trace) (all_retraced new_trace r.fibers)
      ≡ list_any (λ (x : FiberReportView). list_any (is_request_for f) x.trace) r.fibers = asks_same new_trace f r.fibers each_sees in
      let outer = outs_any f in
      rw (inside, outer)
      (or_either (list_any (λ (x : FiberReportView). list_any (is_request_for f) x.trace) r.fibers) (list_any (λ g. g == f) r.outside) (runs'.run_of f).asks)
    where
      by_id : (xs : List FiberReportView) → All (λ (x : FiberReportView). fiber_in r x.id ≡ Some x) xs
          → All (λ (x : FiberReportView). visible_events (new_trace x.id) ≡ visible_events x.trace) xs
      by_id [] h = All-nil (λ (x : FiberReportView). visible_events (new_trace x.id) ≡ visible_events x.trace)
      by_id (x ∷ xs) h =
          All-cons (λ (z : FiberReportView). visible_events (new_trace z.id) ≡ visible_events z.trace) x xs
          (sees_same x.id x (All-head (λ (z : FiberReportView). fiber_in r z.id ≡ Some z) x xs h))
          (by_id xs (All-tail (λ (z : FiberReportView). fiber_in r z.id ≡ Some z) x xs h))

      each_sees : All (λ (x : FiberReportView). visible_events (new_trace x.id) ≡ visible_events x.trace) r.fibers
      each_sees = by_id r.fibers (each_is_found r.fibers lawful.starters.ascending)

  requested_same : (f : ℕ) → (runs'.run_of f).asks ≡ false → is_requested_in r' f ≡ is_requested_in r f
  requested_same f none = requested_too f ∙ or_none (is_requested_in r f) (runs'.run_of f).asks none

  starters : HasStarters r'
  starters =
      record {
        ascending = rw (ids_same new_trace r.fibers) lawful.starters.ascending;
        main = (let m = lawful.starters.main in (retraced new_trace m.0, fiber_too 0 m.0 m.1, m.2));
        others = started;
        once = once;
      }
    where
      started : (f : ℕ) (y : FiberReportView) → fiber_in r' f ≡ Some y → f ≢ 0
          → (p : ℕ) × (z : FiberReportView) × (y.parent ≡ Some p) × (fiber_in r' p ≡ Some z)
      started f y at ne =
          let o = of_report f y at in
          let h = lawful.starters.others f o.fiber o.found ne in
          (h.0, retraced new_trace h.1, ap (λ (z : FiberReportView). z.parent) o.is ∙ h.2, fiber_too h.0 h.1 h.3)

      once : (g : ℕ) (y : FiberReportView) → fiber_in r' g ≡ Some y → (f : ℕ) → starts_of f y.trace ≡ (if is_parent (parent_in r' f) g then 1 else 0)
      once g y at f =
          let o = of_report g y at in
          rw (parent_same f)
          (ap (starts_of f) o.trace_is ∙ same_starts f (new_trace g) o.fiber.trace (sees_same g o.fiber o.found)
          ∙ lawful.starters.once g o.fiber o.found f)

  outcomes_same : ◌≡◌ {A = ℕ → Option Outcome} (λ g. outcome_shown (trace_in r' g)) (λ g. outcome_shown (trace_in r g))
  outcomes_same = fun_ext (λ g. same_outcome (trace_in r' g) (trace_in r g) (trace_visible g))

  abbrev there : Outside
  there = final_outside s r

  -- by the same outcomes, and these requests
  abbrev here : Outside
  here = record { outcome = there.outcome; has_room = there.has_room; has_element = there.has_element; is_requested = is_requested_in r' }

  -- none can step
  unable_too : (f : ℕ) (x : FiberReportView) → fiber_in r f ≡ Some x
      → can_step (final_outside s' r') f (runs'.run_of f).counts (runs'.run_of f).progress ≡ false
  unable_too f x at =
      subst (λ (g : ℕ → Option Outcome).
      can_step (record { outcome = g; has_room = there.has_room; has_element = there.has_element; is_requested = is_requested_in r' }) f
      (runs'.run_of f).counts (runs'.run_of f).progress ≡ false)
      (sym outcomes_same) (by_asks (runs'.run_of f).asks refl)
    where
      by_done : Done f
          → (runs'.run_of f).asks ≡ true → can_step here f (runs'.run_of f).counts (runs'.run_of f).progress ≡ false
      by_done (kept q none) is = absurd cc
      by_done (looks_so p sees) is =
          let n = runs'.run_of f in
          let t = told f x at in
          let known = sees_known (first_counts n.origin) n.counts (Runs n.origin.term) n.progress n.labels t.run (sym sees ∙ is) in
          known_unable there (is_requested_in r') f n.counts n.progress known t.unable

      by_asks : (b : Bool) → (runs'.run_of f).asks ≡ b → can_step here f (runs'.run_of f).counts (runs'.run_of f).progress ≡ false
      by_asks false is =
          let n = runs'.run_of f in can_same there (is_requested_in r') f f (requested_same f is) n.counts n.progress ∙ (told f x at).unable
      by_asks true is = by_done (told f x at).done is

  abbrev new_runs : HasRuns s' r'
  new_runs =
      record {
        origin = λ f. (runs'.run_of f).origin;
        labels = λ f. (runs'.run_of f).labels;
        counts = λ f. (runs'.run_of f).counts;
        progress = λ f. (runs'.run_of f).progress;
        run = λ f y at.
            let o = of_report f y at in
            let t = told f o.fiber o.found in
            record {
              run = t.run;
              trace = sym o.trace_is;
              state = t.state ∙ (lawful.runs.run f o.fiber o.found).state ∙ sym (ap (λ (z : FiberReportView). z.has_ended) o.is);
              unable = unable_too f o.fiber o.found;
            };
      }

  -- each fiber is started once at most, and by its parent
  started_by : (g f n : ℕ) (t : Bool) → is_parent (parent_in r g) f ≡ t → n ≡ (if t then 1 else 0) → n ≤ 1
  started_by g f n true e h = omega (arith, h)
  started_by g f n false e h = omega (arith, h)

  is_started_by : (g f : ℕ) (o : Option ℕ) → parent_in r g ≡ o → 1 ≤ (if is_parent o f then 1 else 0) → o ≡ Some f
  is_started_by g f None e h = absurd (omega (arith, h))
  is_started_by g f (Some p) e h = by_test (p == f) refl
    where
      by_test : (t : Bool) → (p == f) ≡ t → Some p ≡ Some f
      by_test true q = ap Some (eqb-true p f q)
      by_test false q = absurd (let k : 1 ≤ 0 = rw q at h in omega (arith, k))

  new_origins : HasOrigins s' r' new_runs
  new_origins = record { main = runs'.main_is; child = λ f y at. let o = of_report f y at in begins f o.fiber o.found }
    where
      once : (f : ℕ) (x : FiberReportView) → fiber_in r f ≡ Some x → (g : ℕ)
          → starts_of g (events (runs'.run_of f).labels) ≡ (if is_parent (parent_in r g) f then 1 else 0)
      once f x at g = same_starts g (new_trace f) x.trace (sees_same f x at) ∙ lawful.starters.once f x at g

      begins : (f : ℕ) (x : FiberReportView) → fiber_in r f ≡ Some x → All (BeginsAs (λ g. (runs'.run_of g).origin)) (runs'.run_of f).labels
      begins f x at =
          all_begin (λ g. (runs'.run_of g).origin) (runs'.run_of f).labels
          (λ g. started_by g f (starts_of g (events (runs'.run_of f).labels)) (is_parent (parent_in r g) f) refl (once f x at g))
          (λ g b e. let many : 1 ≤ (if is_parent (parent_in r g) f then 1 else 0) =
          subst (λ (n : ℕ). 1 ≤ n) (once f x at g) (traced g b (runs'.run_of f).labels e) in
          runs'.begins g f b (is_started_by g f (parent_in r g) refl many) e)

  -- what ended so there ends so here
  ends_too : (f : ℕ) (o : Outcome) → EndsWith (trace_in r f) o → EndsWith (trace_in r' f) o
  ends_too f o h = by_report (fiber_in r f) refl
    where
      by_outcome : (x : FiberReportView) → fiber_in r f ≡ Some x → (v : Option Outcome) → outcome_at (lawful.runs.progress f) ≡ v → EndsWith (trace_in r' f) o
      by_outcome x at None e =
          let k = lawful.runs.run f x at in
          let none : outcome_shown (h.before ++ event.Ended o ∷ []) ≡ None =
          sym (ap outcome_shown (k.trace ∙ sym (ap trace_of_report at) ∙ h.is))
          ∙ run_outcome (lawful.runs.origin f) (lawful.runs.labels f) (lawful.runs.counts f) (lawful.runs.progress f) k.run ∙ e in
          absurd (end_shown h.before o none)
      by_outcome x at (Some v) e =
          let k = lawful.runs.run f x at in
          let n = runs'.run_of f in
          let t = told f x at in
          let was = run_stops (lawful.runs.origin f) (lawful.runs.labels f) (lawful.runs.counts f) (lawful.runs.progress f) v k.run e in
          let shows : outcome_at n.progress ≡ Some v =
          sym (run_outcome n.origin n.labels n.counts n.progress t.run) ∙ same_outcome (new_trace f) x.trace (sees_same f x at)
          ∙ sym (ap outcome_shown k.trace)
          ∙ run_outcome (lawful.runs.origin f) (lawful.runs.labels f) (lawful.runs.counts f) (lawful.runs.progress f) k.run ∙ e in
          let now = run_stops n.origin n.labels n.counts n.progress v t.run shows in
          let same : v ≡ o = same_end was.ends.before h.before v o (sym was.ends.is ∙ k.trace ∙ sym (ap trace_of_report at) ∙ h.is) in
          record {
            before = now.ends.before;
            is = trace_too f x at ∙ now.ends.is ∙ ap (λ (w : Outcome). now.ends.before ++ event.Ended w ∷ []) same;
          }

      by_report : (z : Option FiberReportView) → fiber_in r f ≡ z → EndsWith (trace_in r' f) o
      by_report None e = absurd (end_shown h.before o (sym (ap outcome_shown h.is) ∙ ap (λ (z : Option FiberReportView). outcome_shown (trace_of_report z)) e))
      by_report (Some x) e = by_outcome x e (outcome_at (lawful.runs.progress f)) refl

  learnt_same : (l : Label) → IsLearnt r l → IsLearnt r' l
  learnt_same (Learns f o e) h = ends_too f o h
  learnt_same Silent h = tt
  learnt_same (Shows e) h = tt
  learnt_same (Starts f b) h = tt

  learnt_like : (l l' : Label) → AreLikeLabels Pair l l' → IsLearnt r l → IsLearnt r l'
  learnt_like l l' itself h = h
  learnt_like l l' (starts p) h = tt

  new_learnt : (f : ℕ) (x : FiberReportView) → fiber_in r f ≡ Some x → All (IsLearnt r') (runs'.run_of f).labels
  new_learnt f x at =
      let was = all_seen (IsLearnt r) (lawful.runs.labels f) (lawful.learnt f x at) in
      let now = all_like (IsLearnt r) learnt_like (told f x at).like was in
      all_by (IsLearnt r) (IsLearnt r') learnt_same (runs'.run_of f).labels
      (all_unseen (IsLearnt r) tt (λ e p. tt) (runs'.run_of f).labels now)

  new_history : (q : ℕ) → HasHistory r' q (capacity_of s' q)
  new_history q =
      let h = lawful.histories q in
      record {
        history = h.history;
        leaves = h.leaves;
        cuts = λ f. h.cuts f ∙ same_queues q f (trace_in r f) (trace_in r' f) (sym (trace_visible f));
      }

  -- what a fiber saw is told rightly
  new_seen : (f : ℕ) (x : FiberReportView) → fiber_in r f ≡ Some x → All (IsSeenRightly r' f) (runs'.run_of f).labels
  new_seen f x at = by_done (told f x at).done
    where
      seen_like : (l l' : Label) → AreLikeLabels Pair l l' → IsSeenRightly r f l → IsSeenRightly r f l'
      seen_like l l' itself h = h
      seen_like l l' (starts p) h = tt

      one : is_requested_in r' f ≡ is_requested_in r f → (l : Label) → IsSeenRightly r f l → IsSeenRightly r' f l
      one same (Shows event.Seen) h = same ∙ h
      one same (Shows _) h = tt
      one same Silent h = tt
      one same (Learns g o e) h = tt
      one same (Starts g b) h = tt

      by_sees : (b : Bool) → sees_request (runs'.run_of f).labels ≡ b → (runs'.run_of f).asks ≡ b → All (IsSeenRightly r' f) (runs'.run_of f).labels
      by_sees true sees asks =
          asked_rightly r' f (requested_too f ∙ or_second (is_requested_in r f) (runs'.run_of f).asks asks) (runs'.run_of f).labels
      by_sees false sees asks = unseen_rightly r' f (runs'.run_of f).labels sees

      by_done : Done f
          → All (IsSeenRightly r' f) (runs'.run_of f).labels
      by_done (kept q none) =
          all_by (IsSeenRightly r f) (IsSeenRightly r' f) (one (requested_same f none)) (runs'.run_of f).labels
          (all_like (IsSeenRightly r f) seen_like q (lawful.seen f x at))
      by_done (looks_so p is) = by_sees (sees_request (runs'.run_of f).labels) refl is

  is_lawful : IsLawfulReport s' may r'
  is_lawful =
      record {
        starters = starters;
        runs = new_runs;
        origins = new_origins;
        left_by_queue = lawful.left_by_queue;
        histories = new_history;
        learnt = λ f y at. let o = of_report f y at in new_learnt f o.fiber o.found;
        seen = λ f y at. let o = of_report f y at in new_seen f o.fiber o.found;
        outside_ascending = they_rise is_asked (1 + need term') asked_below;
        outside_named = λ f c. asked_may f (they_pass is_asked (1 + need term') asked_below f c);
      }

  -- but for those of a pair, the fibers did the same
  module _ (IsOneOfSome : ℕ → Type 0)
      (one_of_some : (f : ℕ) (x : FiberReportView) → fiber_in r f ≡ Some x → (u : Term) → IsLooked f u → IsOneOfSome f) where
    others_same : (f : ℕ) → (IsOneOfSome f → ⊥) → fiber_in r' f ≡ fiber_in r f
    others_same f not_one = by_report (fiber_in r f) refl
      where
        by_done : (x : FiberReportView) → fiber_in r f ≡ Some x
            → Done f
            → fiber_in r' f ≡ fiber_in r f
        by_done x at (kept q none) =
            let h = lawful.runs.run f x at in
            let same : new_trace x.id ≡ x.trace = ap new_trace (found_id f r.fibers x at) ∙ sym (events_like q) ∙ h.trace in
            fiber_too f x at ∙ ap (λ (es : List Event). Some (record x { trace = es })) same ∙ sym at
        by_done x at (looks_so p is) = absurd (not_one (one_of_some f x at (runs'.run_of f).origin.term p))

        by_report : (o : Option FiberReportView) → fiber_in r f ≡ o → fiber_in r' f ≡ fiber_in r f
        by_report None e = absent_too new_trace f r.fibers e ∙ sym e
        by_report (Some x) e = by_done x e (told f x e).done

    asked_same : (f : ℕ) → (IsOneOfSome f → ⊥) → list_any (λ g. g == f) outs ≡ list_any (λ g. g == f) r.outside
    asked_same f not_one = outs_any f ∙ or_none (list_any (λ g. g == f) r.outside) (runs'.run_of f).asks (by_report (fiber_in r f) refl)
      where
        by_done : (x : FiberReportView) → fiber_in r f ≡ Some x
            → Done f
            → (runs'.run_of f).asks ≡ false
        by_done x at (kept q none) = none
        by_done x at (looks_so p is) = absurd (not_one (one_of_some f x at (runs'.run_of f).origin.term p))

        by_report : (o : Option FiberReportView) → fiber_in r f ≡ o → (runs'.run_of f).asks ≡ false
        by_report None e = (runs'.run_of f).absent e
        by_report (Some x) e = by_done x e (told f x e).done

    pub report_like : HasReportWithFibersLike (record { term = term'; capacities = s.capacities }) may IsOneOfSome r
    report_like =
        record {
          report = r';
          lawful = is_lawful;
          alike = record {
            numbers = ids_same new_trace r.fibers;
            fibers = λ f x at.
                record {
                  fiber = retraced new_trace x;
                  found = fiber_too f x at;
                  parent = refl;
                  state = refl;
                  sees = ap (λ (g : ℕ). visible_events (new_trace g)) (found_id f r.fibers x at) ∙ sees_same f x at;
                };
            others = others_same;
            left = refl;
            outside = asked_same;
          };
        }
