-- What is told of a run: its picks choose the run, its events of a fiber are the fiber's, and it names no queue that the script has not.
use Rattle.std.proofs.Common.{◌≡◌, ℕ, ◌+◌, Option, Some, None, List, [], ◌∷◌, ◌++◌, refl, sym, ◌∙◌, ap, subst, append-nil, append_assoc, inl, inr}
use Rattle.std.specs.Prelude.{All, IfSome, ◌==◌, if◌then◌else◌, length}
use Rattle.std.proofs.lemmas.Bool.{cases_eq, eq-eqb, ne_eqb}
use Rattle.std.proofs.lemmas.List.{length-map}
use Rattle.std.proofs.lemmas.List.Elements.{All-nil, All-cons}
use Rattle.fx_term.specs.declared.node.Node.{Node}
use Rattle.fx_term.specs.declared.event.Event.{Event}
use Rattle.fx_term.specs.QueuesNamed.{NamesQueueBelow, NamesQueuesBelow}
use Rattle.fx_term.specs.Script.{ScriptView}
use Rattle.fx_model.specs.Row.{Label, Silent, Shows, Learns, Starts}
use Rattle.fx_model.specs.Run.{events}
use Rattle.fx_model.specs.Report.{ReportView, trace_of_report, trace_in}
use Rattle.fx_model.proofs.QueueNames.{LabelNamesBelow, step_names}
use Rattle.fx_text.specs.declared.pick.Pick.{Pick}
use Rattle.fx_text.specs.declared.pick.Pick.TheVariants as pick
use Rattle.fx_text.specs.Meaning.{Meaning}
use Rattle.fx_report.specs.Script.{script_of}
use Rattle.fx_report.specs.Text.{queue_names}
use Rattle.fx_plain.specs.declared.told.Told.{Told}
use Rattle.fx_plain.specs.declared.told.Told.TheVariants.{Step, Request, Passed}
use Rattle.fx_plain.specs.WholeMachine.{StartedFiber, WholeMachine, Move, opening, FiberSteps, moved}
use Rattle.fx_plain.specs.SettledRun.{report_of_fiber, IsReportOf}
use Rattle.fx_plain.specs.Chosen.{IsChosen, IsReplay}
use Rattle.fx_plain.specs.Chosen as chosen
use Rattle.fx_plain.specs.MovePicks.{picks_of}
use Rattle.fx_plain.specs.ToldRun.{happenings, shown_by, one_shown, AreTold, TellsRun, picks_told, events_told, IsToldAtQueueBelow}
use Rattle.fx_plain.proofs.FamilyKept.{labels_of_fiber, labels_of}
use Rattle.fx_plain.proofs.HistoriesKept.{opening_has_no_labels, events_grow}
use Rattle.fx_plain.proofs.LawfulRuns.{IsKept, opening_is_kept, step_keeps, request_keeps}
use Rattle.fx_plain.proofs.MovePicks.{chosen_again}
use Rattle.fx_plain.proofs.NamedQueues.{AreNamed, step_named, run_named}
use Rattle.fx_plain.proofs.OneRun.{one_run}
use Rattle.fx_plain.proofs.PassedNames.{why_named}

-- of what is told first, and then of the rest
pub events_told-append : (g : ℕ) (first rest : List Told) → events_told g (first ++ rest) ≡ events_told g first ++ events_told g rest
events_told-append g [] rest = refl
events_told-append g (Step made ∷ first) rest =
    ap (λ (es : List Event). (if made.fiber == g then one_shown made.event else []) ++ es) (events_told-append g first rest)
    ∙ sym (append_assoc (if made.fiber == g then one_shown made.event else []) (events_told g first) (events_told g rest))
events_told-append g (Request f ∷ first) rest = events_told-append g first rest
events_told-append g (Passed x ∷ first) rest = events_told-append g first rest

module _ (nodes : List Node) (s : ScriptView) where
  -- the picks are those of the moves
  picks_are : (place : ℕ) {ps : List Pick} {m last : WholeMachine} {vs : List Move} (c : IsChosen s ps m vs last) (told : List Told)
      → AreTold nodes s (happenings place c) told → picks_told told ≡ picks_of vs
  picks_are place (chosen.step {f = f} made rest) (Step t ∷ told) are =
      rw are.0.fiber (ap (λ (ps : List Pick). pick.Step f ∷ ps) (picks_are (place + 1) rest told are.1))
  picks_are place (chosen.no_step cannot rest) (Passed t ∷ told) are = picks_are (place + 1) rest told are.1
  picks_are place (chosen.request {f = f} below rest) (Request g ∷ told) are =
      rw are.0 (ap (λ (ps : List Pick). pick.Cancel f ∷ ps) (picks_are (place + 1) rest told are.1))
  picks_are place (chosen.no_request past rest) (Passed t ∷ told) are = picks_are (place + 1) rest told are.1
  picks_are place (chosen.least {f = f} is made rest) (Step t ∷ told) are =
      rw are.0.fiber (ap (λ (ps : List Pick). pick.Step f ∷ ps) (picks_are place rest told are.1))
  picks_are place (chosen.halts none) [] are = refl
  picks_are place (chosen.halts none) (t ∷ told) are = absurd are
  picks_are place c [] are = absurd are
  picks_are place c (t ∷ told) are = absurd are.0

  pub told_chooses : (ps : List Pick) (told : List Told) (r : ReportView) → TellsRun nodes s ps told → IsReplay s ps r → IsReplay s (picks_told told) r
  told_chooses ps told r t h =
      let same = one_run s (opening_is_kept s) t.chosen h.chosen in
      record {
        moves = t.moves;
        last = t.last;
        chosen = subst (λ (qs : List Pick). IsChosen s qs (opening s) t.moves t.last) (sym (picks_are 1 t.chosen told t.tells)) (chosen_again s t.chosen);
        report = subst (λ (m : WholeMachine). IsReportOf s m r) (sym same.1) h.report;
      }

  pub one_shows : (l : Label) → one_shown (shown_by l) ≡ events (l ∷ [])
  one_shows Silent = refl
  one_shows (Shows e) = refl
  one_shows (Learns f o e) = refl
  one_shows (Starts f b) = refl

  -- a step makes the events of its fiber more by what it shows, and those of no other
  pub events_more : (m : WholeMachine) (f : ℕ) (l : Label) (m' : WholeMachine) → FiberSteps s m f l m' → IsKept s m → (g : ℕ)
      → events (labels_of m' g) ≡ events (labels_of m g) ++ (if f == g then one_shown (shown_by l) else [])
  events_more m f l m' st k g =
      let grow = events_grow s m f st.fiber st.counts st.progress st.started k.ranges k.histories l st.step in
      ap (λ (n : WholeMachine). events (labels_of n g)) st.after
      ∙ elim (cases_eq f g) [
        | inl same ↦ subst (λ (h : ℕ). events (labels_of (moved m f st.fiber l st.counts st.progress) h) ≡
            events (labels_of m h) ++ (if f == h then one_shown (shown_by l) else [])) same
            (grow.own ∙ ap (λ (es : List Event). events (labels_of m f) ++ es) (rw (eq-eqb f f refl) (sym (one_shows l))))
        | inr ne ↦ grow.other g (λ e. ne (sym e)) ∙ rw (ne_eqb f g ne) (sym (append-nil (events (labels_of m g))))
      ]

  told_events : (place : ℕ) {ps : List Pick} {m last : WholeMachine} {vs : List Move} (c : IsChosen s ps m vs last) (told : List Told) → IsKept s m
      → AreTold nodes s (happenings place c) told → (g : ℕ) → events (labels_of last g) ≡ events (labels_of m g) ++ events_told g told
  told_events place (chosen.step {f = f} {l = l} {m = m} {m' = m'} made rest) (Step t ∷ told) k are g = rw (are.0.fiber, are.0.event) (
      told_events (place + 1) rest told (step_keeps s m f l m' made.steps k) are.1 g
      ∙ ap (λ (es : List Event). es ++ events_told g told) (events_more m f l m' made.steps k g)
      ∙ append_assoc (events (labels_of m g)) (if f == g then one_shown (shown_by l) else []) (events_told g told)
      )
  told_events place (chosen.no_step cannot rest) (Passed t ∷ told) k are g = told_events (place + 1) rest told k are.1 g
  told_events place (chosen.request {f = f} {m = m} below rest) (Request h ∷ told) k are g =
      told_events (place + 1) rest told (request_keeps s m f below k) are.1 g
  told_events place (chosen.no_request past rest) (Passed t ∷ told) k are g = told_events (place + 1) rest told k are.1 g
  told_events place (chosen.least {f = f} {l = l} {m = m} {m' = m'} is made rest) (Step t ∷ told) k are g = rw (are.0.fiber, are.0.event) (
      told_events place rest told (step_keeps s m f l m' made.steps k) are.1 g
      ∙ ap (λ (es : List Event). es ++ events_told g told) (events_more m f l m' made.steps k g)
      ∙ append_assoc (events (labels_of m g)) (if f == g then one_shown (shown_by l) else []) (events_told g told)
      )
  told_events place (chosen.halts {m = m} none) [] k are g = sym (append-nil (events (labels_of m g)))
  told_events place (chosen.halts none) (t ∷ told) k are g = absurd are
  told_events place c [] k are g = absurd are
  told_events place c (t ∷ told) k are g = absurd are.0

  reported_trace : (f : ℕ) (stamps : List ℕ) (o : Option StartedFiber) → trace_of_report (report_of_fiber f stamps o) ≡ events (labels_of_fiber o)
  reported_trace f stamps None = refl
  reported_trace f stamps (Some x) = refl

  pub told_is_its_trace : (ps : List Pick) (told : List Told) (r : ReportView) → TellsRun nodes s ps told → IsReplay s ps r → (g : ℕ)
      → events_told g told ≡ trace_in r g
  told_is_its_trace ps told r t h g =
      let same = one_run s (opening_is_kept s) t.chosen h.chosen in
      let report : IsReportOf s t.last r = subst (λ (m : WholeMachine). IsReportOf s m r) (sym same.1) h.report in
      sym (ap trace_of_report (report.fibers g) ∙ reported_trace g (t.last.stamps.trace g) (t.last.fibers g)
      ∙ told_events 1 t.chosen told (opening_is_kept s) t.tells g
      ∙ ap (λ (ls : List Label). events ls ++ events_told g told) (opening_has_no_labels s g))

  module _ (n : ℕ) where
    event_named : (l : Label) (e : Option Event) → LabelNamesBelow n l → e ≡ shown_by l → IfSome e (NamesQueueBelow n)
    event_named Silent e h is = rw is tt
    event_named (Shows v) e h is = rw is h
    event_named (Learns f o v) e h is = rw is h
    event_named (Starts f b) e h is = rw is tt

    label_named : (m : WholeMachine) (f : ℕ) (l : Label) (m' : WholeMachine) (st : FiberSteps s m f l m') → AreNamed n m → LabelNamesBelow n l
    label_named m f l m' st named = (step_names n st.step (named f st.fiber st.started)).1

    all_named : (place : ℕ) {ps : List Pick} {m last : WholeMachine} {vs : List Move} (c : IsChosen s ps m vs last) (told : List Told) → AreNamed n m
        → AreTold nodes s (happenings place c) told → All (IsToldAtQueueBelow n) told
    all_named place (chosen.step {f = f} {l = l} {m = m} {m' = m'} made rest) (Step t ∷ told) named are =
        All-cons (IsToldAtQueueBelow n) (Step t) told (event_named l t.event (label_named m f l m' made.steps named) are.0.event)
        (all_named (place + 1) rest told (step_named n s m f l m' made.steps named) are.1)
    all_named place (chosen.no_step {f = f} {m = m} cannot rest) (Passed t ∷ told) named are =
        All-cons (IsToldAtQueueBelow n) (Passed t) told (why_named n s m f t.why named are.0.why) (all_named (place + 1) rest told named are.1)
    all_named place (chosen.request below rest) (Request h ∷ told) named are =
        All-cons (IsToldAtQueueBelow n) (Request h) told tt (all_named (place + 1) rest told named are.1)
    all_named place (chosen.no_request {f = f} {m = m} past rest) (Passed t ∷ told) named are =
        All-cons (IsToldAtQueueBelow n) (Passed t) told (why_named n s m f t.why named are.0.why) (all_named (place + 1) rest told named are.1)
    all_named place (chosen.least {f = f} {l = l} {m = m} {m' = m'} is made rest) (Step t ∷ told) named are =
        All-cons (IsToldAtQueueBelow n) (Step t) told (event_named l t.event (label_named m f l m' made.steps named) are.0.event)
        (all_named place rest told (step_named n s m f l m' made.steps named) are.1)
    all_named place (chosen.halts none) [] named are = All-nil (IsToldAtQueueBelow n)
    all_named place (chosen.halts none) (t ∷ told) named are = absurd are
    all_named place c [] named are = absurd are
    all_named place c (t ∷ told) named are = absurd are.0

-- what is told names queues that are declared
pub told_at_names : (nodes : List Node) (m : Meaning) (ps : List Pick) (told : List Told) → NamesQueuesBelow (length m.queues) m.term
    → TellsRun nodes (script_of m) ps told → All (IsToldAtQueueBelow (length (queue_names m))) told
told_at_names nodes m ps told term t =
    subst (λ (n : ℕ). All (IsToldAtQueueBelow n) told) (sym (length-map m.queues (λ (q : List ℕ × ℕ). q.0)))
    (all_named nodes (script_of m) (length m.queues) 1 t.chosen told
    (run_named (length m.queues) (script_of m) [] (opening (script_of m)) term refl) t.tells)
