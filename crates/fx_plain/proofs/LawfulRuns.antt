-- The report of a run of the whole machine at whose end no fiber can step is lawful.
use Rattle.std.specs.Prelude.{if◌then◌else◌}
use Rattle.std.proofs.Common.{◌≡◌, ℕ, All, ◌<◌, Bool, true, Option, Some, None, List, [], ◌∷◌, length, refl, sym, ◌∙◌, ap, inl, inr}
use Rattle.std.specs.Prelude.{nat_lt, slice_index}
use Rattle.std.specs.List.{list_any}
use Rattle.std.proofs.lemmas.Bool.{or_cases, or_left, or_right}
use Rattle.std.proofs.lemmas.Option.{none-some, same_Some}
use Rattle.std.proofs.lemmas.List.Elements.{All-weaker}
use mathlib.Core.Path.{fun_ext}
use Rattle.fx_term.specs.declared.outcome.Outcome.{Outcome}
use Rattle.fx_term.specs.declared.event.Event.TheVariants as event
use Rattle.fx_model.specs.Row.{Counts, Label, Silent, Shows, Learns, Starts}
use Rattle.fx_model.specs.Origin.{Origin}
use Rattle.fx_model.specs.Step.{Progress, HasEnded, has_ended}
use Rattle.fx_model.specs.Run.{events, first_counts}
use Rattle.fx_model.specs.Origin.{main_origin}
use Rattle.fx_term.specs.Element.{Element}
use Rattle.fx_term.specs.Queue.{queue_events}
use Rattle.fx_model.specs.Outside.{outcome_at, Outside, can_step}
use Rattle.fx_term.specs.Forms.{IsCore}
use Rattle.fx_term.specs.Script.{ScriptView, total}
use Rattle.fx_model.specs.Report.{FiberReportView, ReportView, fiber_in, parent_of_report, parent_in, trace_of_report, trace_in, capacity_of, outcome_shown}
use Rattle.fx_model.specs.Report.{is_request_for, is_requested_in, final_outside}
use Rattle.fx_model.specs.LawfulReport.{starts_of, is_parent, HasStarters, HasRun, HasRuns, BeginsAs, HasOrigins, HasHistory, IsLearnt, IsSeenRightly}
use Rattle.fx_model.specs.LawfulReport.{IsLawfulReport}
use Rattle.fx_model.specs.Headline.{KeepsWhatIsPromised}
use Rattle.fx_model.proofs.HeadlineLaws.{lawful_report_holds}
use Rattle.fx_plain.specs.WholeMachine.{StartedFiber, WholeMachine, Move, opening, outcome_of_fiber, outcome_of, outside_of, can_step_fiber}
use Rattle.fx_plain.specs.WholeMachine.{moved, FiberSteps, requested_from_outside, Steps, Requests, IsSettled, WholeMachineLeads, IsWholeMachineRun}
use Rattle.fx_plain.specs.SettledRun.{report_of_fiber, IsReportOf, HasSettledRun}
use Rattle.fx_plain.proofs.Maps.{same_tests}
use Rattle.fx_plain.proofs.RangesKept.{HasRanges, opening_has_ranges, ranges_kept}
use Rattle.fx_plain.proofs.FamilyKept.{parent_of_fiber, parent_of, labels_of_fiber, labels_of, IsFamily, opening_is_family, family_kept}
use Rattle.fx_plain.proofs.RunsKept.{IsSo, AreSo, HasRequests, opening_is_so, opening_has_requests, are_so_kept, requests_kept, request_is_so}
use Rattle.fx_plain.proofs.RunsKept.{request_has_requests}
use Rattle.fx_plain.proofs.HistoriesKept.{HasHistories, opening_has_histories, histories_kept}
use Rattle.fx_model.proofs.OutcomeLaws.{run_outcome, run_stops}
use Rattle.fx_report.proofs.Keys.{rises_from, passing_is_found, found_passes, contained_passes}

-- what each machine of a run keeps
pub record IsKept (s : ScriptView) (m : WholeMachine) : Type 0 where
  pub ranges : HasRanges s m
  pub family : IsFamily s m
  pub so : AreSo m
  pub requests : HasRequests s m
  pub histories : HasHistories s m

abbrev pub opening_is_kept : (s : ScriptView) → IsKept s (opening s)
opening_is_kept s =
    record {
      ranges = opening_has_ranges s;
      family = opening_is_family s;
      so = opening_is_so s;
      requests = opening_has_requests s;
      histories =
          opening_has_histories s;
    }

-- what a step leaves
abbrev pub after_step : {s : ScriptView} {m : WholeMachine} {f : ℕ} {l : Label} {m' : WholeMachine} → FiberSteps s m f l m' → WholeMachine
after_step {m = m} {f = f} {l = l} st = moved m f st.fiber l st.counts st.progress

abbrev pub moved_keeps : (s : ScriptView) (m : WholeMachine) (f : ℕ) (l : Label) (m' : WholeMachine) (st : FiberSteps s m f l m') → IsKept s m
    → IsKept s (after_step st)
moved_keeps s m f l m' st k = record {
  ranges = ranges_kept s m f st.fiber st.counts st.progress st.started k.ranges l st.step;
  family = family_kept s m f st.fiber st.counts st.progress st.started k.ranges k.family l st.step;
  so = are_so_kept s m f st.fiber st.counts st.progress st.started k.ranges l st.step st.answered k.so;
  requests = requests_kept s m f st.fiber st.counts st.progress st.started k.ranges l st.step k.requests;
  histories = histories_kept s m f st.fiber st.counts st.progress st.started k.ranges k.histories l st.step st.answered;
}

pub step_keeps : (s : ScriptView) (m : WholeMachine) (f : ℕ) (l : Label) (m' : WholeMachine) → FiberSteps s m f l m' → IsKept s m → IsKept s m'
step_keeps s m f l m' st k = rw st.after (moved_keeps s m f l m' st k)

abbrev pub request_keeps : (s : ScriptView) (m : WholeMachine) (f : ℕ) → f < total s → IsKept s m → IsKept s (requested_from_outside f m)
request_keeps s m f lt k = record {
  ranges = record {
    room = k.ranges.room;
    apart =
        λ g h n p q. k.ranges.apart g h n (record { fiber = p.fiber; at = p.at; least = p.least; below = p.below })
        (record { fiber = q.fiber; at = q.at; least = q.least; below = q.below });
    unstarted = λ g n p. k.ranges.unstarted g n (record { fiber = p.fiber; at = p.at; least = p.least; below = p.below });
    below_total = k.ranges.below_total;
    started_below = k.ranges.started_below;
  };
  family = record { main = k.family.main; others = k.family.others; parents = k.family.parents; once = k.family.once; runs = k.family.runs };
  so = request_is_so s m f lt k.so;
  requests = request_has_requests s m f lt k.requests;
  histories =
      record { history = k.histories.history; state = k.histories.state; legal = k.histories.legal; items = k.histories.items; cuts = k.histories.cuts };
}

leads_keep : (s : ScriptView) (m : WholeMachine) (vs : List Move) (last : WholeMachine) → WholeMachineLeads s m vs last → IsKept s m → IsKept s last
leads_keep s m [] last r k = rw r k
leads_keep s m (Steps f l ∷ vs) last r k = leads_keep s r.0 vs last r.2 (step_keeps s m f l r.0 r.1 k)
leads_keep s m (Requests f ∷ vs) last r k = leads_keep s r.0 vs last r.2 (rw r.1.1 (request_keeps s m f r.1.0 k))

pub run_keeps : (s : ScriptView) (vs : List Move) (last : WholeMachine) → IsWholeMachineRun s vs last → IsKept s last
run_keeps s vs last r = leads_keep s (opening s) vs last r (opening_is_kept s)

abbrev id : FiberReportView → ℕ
id x = x.id

abbrev asks_for : ℕ → FiberReportView → Bool
asks_for f x = list_any (is_request_for f) x.trace

abbrev fiber_report : ℕ → List ℕ → StartedFiber → FiberReportView
fiber_report f stamps y = record { id = f; parent = y.parent; has_ended = has_ended y.progress; trace = events y.labels; stamps = stamps }

module _ (s : ScriptView) (m : WholeMachine) (r : ReportView) (rep : IsReportOf s m r) (kept : IsKept s m) where
  -- a fiber of the report is one of the whole machine
  record Of (f : ℕ) (x : FiberReportView) : Type 0 where
    pub fiber : StartedFiber
    pub at : m.fibers f ≡ Some fiber
    pub is : x ≡ fiber_report f (m.stamps.trace f) fiber

  of_machine : (f : ℕ) (x : FiberReportView) → fiber_in r f ≡ Some x → Of f x
  of_machine f x e = by_fiber (m.fibers f) refl
    where
      by_fiber : (o : Option StartedFiber) → m.fibers f ≡ o → Of f x
      by_fiber None is = absurd (none-some x (sym (ap (report_of_fiber f (m.stamps.trace f)) is) ∙ sym (rep.fibers f) ∙ e))
      by_fiber (Some y) is =
          let told = rep.fibers f ∙ ap (report_of_fiber f (m.stamps.trace f)) is in
          record { fiber = y; at = is; is = same_Some x (fiber_report f (m.stamps.trace f) y) (sym e ∙ told) }

  in_report : (f : ℕ) (y : StartedFiber) → m.fibers f ≡ Some y → fiber_in r f ≡ Some (fiber_report f (m.stamps.trace f) y)
  in_report f y e = rep.fibers f ∙ ap (report_of_fiber f (m.stamps.trace f)) e

  parent_of_told : (f : ℕ) (o : Option StartedFiber) → parent_of_report (report_of_fiber f (m.stamps.trace f) o) ≡ parent_of_fiber o
  parent_of_told f None = refl
  parent_of_told f (Some y) = refl

  trace_of_told : (f : ℕ) (o : Option StartedFiber) → trace_of_report (report_of_fiber f (m.stamps.trace f) o) ≡ events (labels_of_fiber o)
  trace_of_told f None = refl
  trace_of_told f (Some y) = refl

  parent_same : (f : ℕ) → parent_in r f ≡ parent_of m f
  parent_same f = ap parent_of_report (rep.fibers f) ∙ parent_of_told f (m.fibers f)

  pub trace_same : (f : ℕ) → trace_in r f ≡ events (labels_of m f)
  trace_same f = ap trace_of_report (rep.fibers f) ∙ trace_of_told f (m.fibers f)

  starters_told : HasStarters r
  starters_told = record {
    ascending = rep.ascending;
    main = (fiber_report 0 (m.stamps.trace 0) kept.family.main.0, in_report 0 kept.family.main.0 kept.family.main.1, kept.family.main.2);
    others = λ f x e ne.
        (let o = of_machine f x e in
        let h = kept.family.others f o.fiber o.at ne in
        (h.0, fiber_report h.0 (m.stamps.trace h.0) h.1, ap (λ (z : FiberReportView). z.parent) o.is ∙ h.2, in_report h.0 h.1 h.3));
    once = λ g y e f.
        (let o = of_machine g y e in
        ap (λ (z : FiberReportView). starts_of f z.trace) o.is ∙ kept.family.once g o.fiber o.at f
        ∙ ap (λ (p : Option ℕ). if is_parent p g then 1 else 0) (sym (parent_same f)));
  }

  outcome_of_told : (f : ℕ) → outcome_shown (trace_in r f) ≡ outcome_of m f
  outcome_of_told f = ap outcome_shown (trace_same f) ∙ by_fiber (m.fibers f) refl
    where
      by_fiber : (o : Option StartedFiber) → m.fibers f ≡ o → outcome_shown (events (labels_of_fiber o)) ≡ outcome_of m f
      by_fiber None is = sym (ap outcome_of_fiber is)
      by_fiber (Some y) is = run_outcome y.origin y.labels y.counts y.progress (kept.family.runs f y is) ∙ sym (ap outcome_of_fiber is)

  -- who is requested by the report is so in the whole machine, and the other way round
  requested_told : (f : ℕ) → is_requested_in r f ≡ m.requested f
  requested_told f = same_tests (is_requested_in r f) (m.requested f) there back
    where
      by_trace : (x : FiberReportView) → fiber_in r x.id ≡ Some x → list_any (is_request_for f) x.trace ≡ true → m.requested f ≡ true
      by_trace x e asks =
          let o = of_machine x.id x e in
          kept.requests.by_fiber f (record {
            number = x.id;
            fiber = o.fiber;
            at = o.at;
            asks =
                sym (ap (λ (z : FiberReportView). list_any (is_request_for f) z.trace) o.is) ∙ asks;
          })

      there : is_requested_in r f ≡ true → m.requested f ≡ true
      there e = elim (or_cases _ _ e) [
        | inl asks ↦ (let p = passing_is_found id (asks_for f) r.fibers (rises_from id r.fibers rep.ascending) asks in
            by_trace p.0 p.1 p.2)
        | inr out ↦ kept.requests.by_outside f (sym (rep.outside f) ∙ out)
      ]

      back : m.requested f ≡ true → is_requested_in r f ≡ true
      back e = elim (kept.requests.asked f e) [
        | inl out ↦ or_right _ _ (rep.outside f ∙ out)
        | inr a ↦ or_left _ _ (found_passes id a.number (asks_for f) r.fibers (fiber_report a.number (m.stamps.trace a.number) a.fiber)
            (in_report a.number a.fiber a.at) a.asks)
      ]

  outside_same : final_outside s r ≡ outside_of s m
  outside_same =
      by_parts (fun_ext outcome_of_told) (fun_ext (λ q. ap (λ (xs : List Element). nat_lt (length xs) (slice_index s.capacities q)) (rep.left q)))
      (fun_ext (λ q. ap (λ (xs : List Element). nat_lt 0 (length xs)) (rep.left q))) (fun_ext requested_told)
    where
      by_parts : {a a' : ℕ → Option Outcome} {b b' c c' d d' : ℕ → Bool} → a ≡ a' → b ≡ b' → c ≡ c' → d ≡ d'
          → ◌≡◌ {A = Outside} (record { outcome = a; has_room = b; has_element = c; is_requested = d })
          (record { outcome = a'; has_room = b'; has_element = c'; is_requested = d' })
      by_parts p q u v = cc

  abbrev origin_in : Option StartedFiber → Origin
  origin_in None = main_origin s.term
  origin_in (Some y) = y.origin

  abbrev counts_in : Option StartedFiber → Counts
  counts_in None = first_counts (main_origin s.term)
  counts_in (Some y) = y.counts

  abbrev progress_in : Option StartedFiber → Progress
  progress_in None = HasEnded Rattle.fx_term.specs.declared.outcome.Outcome.TheVariants.Canceled
  progress_in (Some y) = y.progress

  begins_as : (l : Label) (f : ℕ) → IsSo m f l → BeginsAs (λ g. origin_in (m.fibers g)) l
  begins_as (Starts g b) f h = ap origin_in h.1 ∙ h.2
  begins_as Silent f h = tt
  begins_as (Shows e) f h = tt
  begins_as (Learns g o e) f h = tt

  is_learnt : (l : Label) (f : ℕ) → IsSo m f l → IsLearnt r l
  is_learnt (Learns g o e) f h =
      let y = h.0 in
      rw (trace_same g, h.1) (run_stops y.origin y.labels y.counts y.progress o (kept.family.runs g y h.1) (ap outcome_at h.2)).ends
  is_learnt Silent f h = tt
  is_learnt (Shows e) f h = tt
  is_learnt (Starts g b) f h = tt

  is_seen : (l : Label) (f : ℕ) → IsSo m f l → IsSeenRightly r f l
  is_seen (Shows event.Seen) f h = requested_told f ∙ h
  is_seen _ f h = tt

  module _ (none : IsSettled s m) where
    run_told : (f : ℕ) (x : FiberReportView) → fiber_in r f ≡ Some x
        → HasRun s r f x (origin_in (m.fibers f)) (labels_of m f) (counts_in (m.fibers f)) (progress_in (m.fibers f))
    run_told f x e =
        let o = of_machine f x e in
        let y = o.fiber in
        let run : HasRun s r f x y.origin y.labels y.counts y.progress = record {
          run = kept.family.runs f y o.at;
          trace = sym (ap (λ (z : FiberReportView). z.trace) o.is);
          state = sym (ap (λ (z : FiberReportView). z.has_ended) o.is);
          unable = ap (λ (out : Outside). can_step out f y.counts y.progress) outside_same ∙ sym (ap (can_step_fiber (outside_of s m) f) o.at) ∙ none f;
        } in
        rw o.at run

    runs_told : HasRuns s r
    runs_told = record {
      origin = λ f. origin_in (m.fibers f);
      labels = λ f. labels_of m f;
      counts = λ f. counts_in (m.fibers f);
      progress = λ f. progress_in (m.fibers f);
      run = run_told;
    }

    -- what the labels of a fiber say
    all_labels : (P : Label → Type 0) (f : ℕ) → ((l : Label) → IsSo m f l → P l) → (x : FiberReportView) → fiber_in r f ≡ Some x → All P (labels_of m f)
    all_labels P f each x e = let o = of_machine f x e in rw o.at (All-weaker (IsSo m f) P each o.fiber.labels (kept.so f o.fiber o.at))

    origins_told : HasOrigins s r runs_told
    unfolding runs_told
    origins_told = record {
      main = ap origin_in kept.family.main.1 ∙ kept.family.main.3;
      child = λ f x e. all_labels (BeginsAs (λ g. origin_in (m.fibers g))) f (λ l. begins_as l f) x e;
    }

    history_told : (q : ℕ) → HasHistory r q (capacity_of s q)
    history_told q = record {
      history = kept.histories.history q;
      leaves = record { last = kept.histories.state q; legal = kept.histories.legal q; rest_is = kept.histories.items q ∙ sym (rep.left q) };
      cuts = λ f. kept.histories.cuts q f ∙ ap (queue_events q f) (sym (trace_same f));
    }

    pub report_is_lawful : IsLawfulReport s (λ f. true) r
    unfolding runs_told
    report_is_lawful = record {
      starters = starters_told;
      runs = runs_told;
      origins = origins_told;
      left_by_queue = rep.left_by_queue;
      histories = history_told;
      learnt = λ f x e. all_labels (IsLearnt r) f (λ l. is_learnt l f) x e;
      seen = λ f x e. all_labels (IsSeenRightly r f) f (λ l. is_seen l f) x e;
      outside_ascending = rep.outside_ascending;
      outside_named = λ f h. (kept.requests.below f (sym (rep.outside f) ∙ contained_passes r.outside f h), refl);
    }

    -- it is so by the labels of the whole machine's fibers, and by the queues as they are left
    pub labels_told : report_is_lawful.runs.labels ≡ labels_of m
    unfolding report_is_lawful runs_told
    labels_told = refl

    pub queues_told : (q : ℕ) → (report_is_lawful.histories q).leaves.last ≡ kept.histories.state q
    unfolding report_is_lawful runs_told history_told
    queues_told q = refl

    pub histories_told : (q : ℕ) → (report_is_lawful.histories q).history ≡ kept.histories.history q
    unfolding report_is_lawful runs_told history_told
    histories_told q = refl

-- the report of a run at whose end no fiber can step is lawful, where every number may be requested from outside
pub settled_is_lawful : (s : ScriptView) (r : ReportView) → HasSettledRun s r → IsLawfulReport s (λ f. true) r
settled_is_lawful s r h = report_is_lawful s h.last r h.report (run_keeps s h.moves h.last h.run) h.settled

-- it holds what is promised
pub settled_keeps_promises : (s : ScriptView) (r : ReportView) → IsCore s.term → HasSettledRun s r → KeepsWhatIsPromised s (λ f. true) r
settled_keeps_promises s r core h =
    let lawful = settled_is_lawful s r h in record { lawful = lawful; promised = lawful_report_holds s (λ f. true) r core lawful }
