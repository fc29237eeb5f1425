-- A lawful report of which something is told is lawful by runs of which that is told.
use Rattle.std.proofs.Common.{◌≡◌, ℕ, Bool, true, false, Option, Some, None, List, [], ◌∷◌, All, sym, ◌∙◌, ap, subst, inl, inr, refl}
use Rattle.std.specs.List.Sorted.{IsStrictlyIncreasing}
use Rattle.std.proofs.lemmas.Option.{none-some}
use Rattle.std.proofs.lemmas.List.Elements.{All-nil, All-cons, All-head, All-tail, All-weaker}
use Rattle.fx_term.specs.declared.node.Node.{Node}
use Rattle.fx_term.specs.declared.outcome.Outcome.{Outcome}
use Rattle.fx_term.specs.declared.event.Event.{Event}
use Rattle.fx_term.specs.declared.event.Event.TheVariants as event
use Rattle.fx_term.specs.Lists.{Among}
use Rattle.fx_term.specs.Script.{ScriptView}
use Rattle.fx_model.specs.Origin.{main_origin}
use Rattle.fx_model.specs.Row.{Label, Silent, Shows, Learns, Starts}
use Rattle.fx_model.specs.Run.{first_counts, events}
use Rattle.fx_model.specs.Outside.{can_step}
use Rattle.fx_model.specs.Step.{Runs}
use Rattle.fx_model.specs.Report.{FiberReportView, ReportView, fiber_in, trace_of_report, trace_in, outcome_shown, is_requested_in, final_outside}
use Rattle.fx_model.specs.LawfulReport.{HasRun, HasRuns, BeginsAs, HasOrigins, EndsWith, IsLearnt, IsSeenRightly, IsLawfulReport}
use Rattle.fx_model.proofs.OutcomeLaws.{run_outcome, run_stops}
use Rattle.fx_model.proofs.StepLabels.{IsProper}
use Rattle.fx_model.proofs.EventLabels.{run_is_proper, seen_label}
use Rattle.fx_follow.specs.declared.stand.Stand.{Stand}
use Rattle.fx_follow.specs.Trails.{LearnsFrom}
use Rattle.fx_follow.specs.Followed.{FiberRun, AreEach, StartsRun, AreFollowed, AreToldOf, AreToldBy}
use Rattle.fx_follow.proofs.ShowsFrom.{leads_alone}
use Rattle.fx_follow.proofs.FoundRuns.{run_among, HasItsRun, same_numbers, has_its_run, found_holds, found_by_number}

-- a fiber that saw a request was requested, by any labels that show its trace
module _ (r : ReportView) (f : ℕ) where
  seen_by_label : (l : Label) → IsProper l → IsSeenRightly r f l → events (l ∷ []) ≡ event.Seen ∷ [] → is_requested_in r f ≡ true
  seen_by_label l proper rightly is = subst (IsSeenRightly r f) (seen_label l proper is) rightly

  requested_if_seen : (ls : List Label) → All IsProper ls → All (IsSeenRightly r f) ls → Among event.Seen (events ls) → is_requested_in r f ≡ true
  requested_if_seen [] proper rightly there = absurd there
  requested_if_seen (l ∷ ls) proper rightly there =
      by_label l (All-head IsProper l ls proper) (All-head (IsSeenRightly r f) l ls rightly)
      (requested_if_seen ls (All-tail IsProper l ls proper) (All-tail (IsSeenRightly r f) l ls rightly)) there
    where
      by_event : (l : Label) (e : Event) → events (l ∷ []) ≡ e ∷ [] → IsProper l → IsSeenRightly r f l
          → (Among event.Seen (events ls) → is_requested_in r f ≡ true) → Among event.Seen (e ∷ events ls) → is_requested_in r f ≡ true
      by_event l e is p h later there = elim there [
        | inl same ↦ seen_by_label l p h (is ∙ ap (λ (v : Event). v ∷ []) (sym same))
        | inr rest ↦ later rest
      ]

      by_label : (l : Label) → IsProper l → IsSeenRightly r f l → (Among event.Seen (events ls) → is_requested_in r f ≡ true)
          → Among event.Seen (events (l ∷ ls)) → is_requested_in r f ≡ true
      by_label Silent p h later there = later there
      by_label (Shows e) p h later there = by_event (Shows e) e refl p h later there
      by_label (Learns g o e) p h later there = by_event (Learns g o e) e refl p h later there
      by_label (Starts g b) p h later there = by_event (Starts g b) (event.Start g) refl p h later there

  seen_if_requested : (ls : List Label) → (Among event.Seen (events ls) → is_requested_in r f ≡ true) → All (IsSeenRightly r f) ls
  seen_if_requested [] requested = All-nil (IsSeenRightly r f)
  seen_if_requested (Silent ∷ ls) requested = All-cons (IsSeenRightly r f) Silent ls tt (seen_if_requested ls requested)
  seen_if_requested (Shows event.Seen ∷ ls) requested =
      All-cons (IsSeenRightly r f) (Shows event.Seen) ls (requested (inl refl)) (seen_if_requested ls (λ there. requested (inr there)))
  seen_if_requested (Shows e ∷ ls) requested = All-cons (IsSeenRightly r f) (Shows e) ls tt (seen_if_requested ls (λ there. requested (inr there)))
  seen_if_requested (Learns g o e ∷ ls) requested =
      All-cons (IsSeenRightly r f) (Learns g o e) ls tt (seen_if_requested ls (λ there. requested (inr there)))
  seen_if_requested (Starts g b ∷ ls) requested =
      All-cons (IsSeenRightly r f) (Starts g b) ls tt (seen_if_requested ls (λ there. requested (inr there)))

-- in a lawful report a trace that tells an outcome ends with it
ends_as_shown : (s : ScriptView) (r : ReportView) → HasRuns s r → (g : ℕ) (o : Outcome) → outcome_shown (trace_in r g) ≡ Some o → EndsWith (trace_in r g) o
ends_as_shown s r runs g o shown = by_fiber (fiber_in r g) refl
  where
    by_fiber : (x : Option FiberReportView) → fiber_in r g ≡ x → EndsWith (trace_in r g) o
    by_fiber None is = absurd (none-some o (ap (λ (x : Option FiberReportView). outcome_shown (trace_of_report x)) (sym is) ∙ shown))
    by_fiber (Some x) is =
        let run = runs.run g x is in
        let trace : trace_in r g ≡ events (runs.labels g) = ap trace_of_report is ∙ sym run.trace in
        let told = sym (run_outcome (runs.origin g) (runs.labels g) (runs.counts g) (runs.progress g) run.run) ∙ ap outcome_shown (sym trace) ∙ shown in
        let stops = run_stops (runs.origin g) (runs.labels g) (runs.counts g) (runs.progress g) o run.run told in
        record { before = stops.ends.before; is = trace ∙ stops.ends.is }

-- for a number that no run has
abbrev no_run : ScriptView → FiberRun
no_run s =
    record { number = 0; origin = main_origin s.term; labels = []; counts = first_counts (main_origin s.term); progress = Runs s.term }

abbrev run_or : FiberRun → Option FiberRun → FiberRun
run_or other None = other
run_or other (Some run) = run

module _ (nodes : List Node) (s : ScriptView) (may : ℕ → Bool) (r : ReportView) (told : List (List Stand)) (lawful : IsLawfulReport s may r)
    (followed : AreFollowed nodes s r told) where
  abbrev run_of : ℕ → FiberRun
  run_of f = run_or (no_run s) (run_among followed.runs f)

  its_run : (f : ℕ) (x : FiberReportView) → fiber_in r f ≡ Some x → HasItsRun nodes (final_outside s r) followed.runs f x
  its_run f x at = has_its_run nodes (final_outside s r) r.fibers told followed.runs followed.each f x at

  found_there : (run : FiberRun) (f : ℕ) → Among run followed.runs → run.number ≡ f → run_among followed.runs f ≡ Some run
  found_there run f there is =
      let same = same_numbers nodes (final_outside s r) r.fibers told followed.runs followed.each in
      found_by_number followed.runs run f (subst IsStrictlyIncreasing (sym same) lawful.starters.ascending) there is

  run_told : (f : ℕ) (x : FiberReportView) → fiber_in r f ≡ Some x
      → HasRun s r f x (run_of f).origin (run_of f).labels (run_of f).counts (run_of f).progress
  run_told f x at =
      let h = its_run f x at in
      let q = h.run in
      let run : HasRun s r f x q.origin q.labels q.counts q.progress = record {
        run = leads_alone nodes q.counts q.progress h.followed.leads.0 q.labels (first_counts q.origin) (Runs q.origin.term) None h.stands h.followed.leads.1;
        trace = h.followed.trace;
        state = h.followed.state;
        unable = subst (λ (g : ℕ). can_step (final_outside s r) g q.counts q.progress ≡ false) h.id_is h.followed.unable;
      } in
      rw h.at run

  abbrev runs_told : HasRuns s r
  runs_told = record {
    origin = λ f. (run_of f).origin;
    labels = λ f. (run_of f).labels;
    counts = λ f. (run_of f).counts;
    progress = λ f. (run_of f).progress;
    run = run_told;
  }

  begins_as : (l : Label) → StartsRun followed.runs l → BeginsAs (λ f. (run_of f).origin) l
  begins_as (Starts g b) h = ap (λ (found : Option FiberRun). (run_or (no_run s) found).origin) (found_there h.0 g h.1 h.2) ∙ h.3
  begins_as Silent h = tt
  begins_as (Shows e) h = tt
  begins_as (Learns g o e) h = tt

  origins_told : HasOrigins s r runs_told
  origins_told = record {
    main = begins_as (Starts 0 (main_origin s.term)) followed.main;
    child = λ f x at.
        (let h = its_run f x at in
        let starts = found_holds (λ (run : FiberRun). All (StartsRun followed.runs) run.labels) f followed.runs h.run followed.starts h.at in
        rw h.at (All-weaker (StartsRun followed.runs) (BeginsAs (λ g. (run_of g).origin)) begins_as h.run.labels starts));
  }

  is_learnt : (l : Label) → LearnsFrom (final_outside s r).outcome l → IsLearnt r l
  is_learnt (Learns g o e) h = ends_as_shown s r lawful.runs g o h
  is_learnt Silent h = tt
  is_learnt (Shows e) h = tt
  is_learnt (Starts g b) h = tt

  learnt_told : (f : ℕ) (x : FiberReportView) → fiber_in r f ≡ Some x → All (IsLearnt r) (run_of f).labels
  learnt_told f x at =
      let h = its_run f x at in rw h.at (All-weaker (LearnsFrom (final_outside s r).outcome) (IsLearnt r) is_learnt h.run.labels h.followed.learnt)

  seen_told : (f : ℕ) (x : FiberReportView) → fiber_in r f ≡ Some x → All (IsSeenRightly r f) (run_of f).labels
  seen_told f x at =
      let old = lawful.runs.run f x at in
      let proper = run_is_proper _ _ _ _ (lawful.runs.labels f) old.run in
      let same : events (run_of f).labels ≡ events (lawful.runs.labels f) = (run_told f x at).trace ∙ sym old.trace in
      seen_if_requested r f (run_of f).labels
      (λ there. requested_if_seen r f (lawful.runs.labels f) proper (lawful.seen f x at) (subst (Among event.Seen) same there))

  abbrev lawful_by_told : IsLawfulReport s may r
  lawful_by_told = record {
    starters = lawful.starters;
    runs = runs_told;
    origins = origins_told;
    left_by_queue = lawful.left_by_queue;
    histories = lawful.histories;
    learnt = learnt_told;
    seen = seen_told;
    outside_ascending = lawful.outside_ascending;
    outside_named = lawful.outside_named;
  }

  -- of some fibers, whose runs are among the others
  told_of : (xs : List FiberReportView) (told : List (List Stand)) (runs : List FiberRun) → AreEach nodes (final_outside s r) xs told runs
      → ((run : FiberRun) → Among run runs → Among run followed.runs) → AreToldOf nodes runs_told xs told
  told_of [] [] [] each within = tt
  told_of (x ∷ xs) (stands ∷ rest) (run ∷ runs) each within =
      let at = found_there run x.id (within run (inl refl)) each.0.number in
      (rw at each.0.leads, told_of xs rest runs each.1 (λ q there. within q (inr there)))
  told_of _ _ _ each within = absurd each

  pub lawful_by_runs_told : (by_told : IsLawfulReport s may r) × AreToldBy nodes s r by_told.runs told
  lawful_by_runs_told = (lawful_by_told, told_of r.fibers told followed.runs followed.each (λ run there. there))
