-- The stamps of a run of the whole machine, and of its report, are those of the definition.
use Rattle.std.proofs.Common.{◌≡◌, ℕ, Bool, true, false, Option, Some, None, Contains, List, [], ◌∷◌, ◌++◌, length, refl, sym, ◌∙◌, ap, subst}
use Rattle.std.proofs.Common.{append-nil, append_assoc, ◌<◌, ◌⊎◌, inl, inr}
use Rattle.std.specs.Prelude.{slice_get, take}
use mathlib.Core.Path.{fun_ext}
use Rattle.fx_term.specs.declared.event.Event.{Event}
use Rattle.fx_term.specs.declared.event.Event.TheVariants as event
use Rattle.fx_term.specs.declared.queue_event.QueueEvent.{QueueEvent}
use Rattle.fx_term.specs.Queue.{QueueState, queue_events}
use Rattle.fx_term.specs.Script.{ScriptView, total}
use Rattle.fx_model.specs.Row.{Label}
use Rattle.fx_model.specs.Run.{events}
use Rattle.fx_model.specs.Report.{ReportView, fiber_in, trace_in, capacity_of}
use Rattle.fx_model.specs.Causes.{values_got, taking_of, TakesWhatWasPut, LearnsOfEnd, LeavesQueue}
use Rattle.fx_model.specs.KeptStamps.{number_in}
use Rattle.fx_model.specs.Stamps.{IsRequestStamp, IsStamped, IsLawfulWithStamps}
use Rattle.fx_model.proofs.StampedReports.{ordered_by_stamps}
use Rattle.fx_model.proofs.TakenStamps.{cause_is_of_put}
use Rattle.fx_plain.specs.WholeMachine.{StartedFiber, WholeMachine, Move, Steps, Requests}
use Rattle.fx_plain.specs.WholeMachine.{opening, IsSettled, FiberSteps, requested_from_outside, WholeMachineLeads}
use Rattle.fx_plain.specs.SettledRun.{report_of_fiber, IsReportOf, HasSettledRun}
use Rattle.fx_model.specs.ReportStamps.{stamps_of_report, stamp_in}
use Rattle.fx_plain.specs.StampedList.{IsStampedInOneList}
use Rattle.fx_plain.specs.ToldQueues.{queue_moves}
use Rattle.fx_report.proofs.Keys.{passing_contained}
use Rattle.fx_plain.proofs.FamilyKept.{labels_of_fiber, labels_of}
use Rattle.fx_plain.proofs.HistoriesKept.{opening_has_no_history, histories_grow}
use Rattle.fx_plain.proofs.LawfulRuns.{after_step, moved_keeps, trace_same, labels_told, queues_told, histories_told}
use Rattle.fx_plain.proofs.CausesKept.{trace_of, order_has_moments}
use Rattle.fx_plain.proofs.RunOrder.{KeptInOrder, opening_in_order, moved_in_order, request_in_order, lawful, report_in_order, report_is_in_order}
use Rattle.fx_plain.proofs.MachineStampsGrow.{AreGreatest}
use Rattle.fx_plain.proofs.MachineStampsKept.{stamp_at, HasStamps, opening_has_stamps, request_keeps_stamps, stamps_kept}

-- what each machine of a run keeps, with one order of its events so far and their stamps
record KeptStamped (s : ScriptView) (m : WholeMachine) : Type 0 where
  pub in_order : KeptInOrder s m
  pub stamps : HasStamps s m in_order.kept.histories in_order.order.moment

opening_stamped : (s : ScriptView) → KeptStamped s (opening s)
opening_stamped s = record { in_order = opening_in_order s; stamps = opening_has_stamps s (opening_in_order s).order.moment }

-- what a machine keeps to which these moves lead, with histories that go on from those before as the moves do
record GoesOnStamped (s : ScriptView) (m : WholeMachine) (k : KeptStamped s m) (moves : List Move) (last : WholeMachine) : Type 0 where
  pub kept : KeptStamped s last
  pub histories : (q : ℕ) → kept.in_order.kept.histories.history q ≡ k.in_order.kept.histories.history q ++ queue_moves q moves

step_stamped : (s : ScriptView) (m : WholeMachine) (f : ℕ) (l : Label) (m' : WholeMachine) → FiberSteps s m f l m' → (k : KeptStamped s m)
    → GoesOnStamped s m k (Steps f l ∷ []) m'
step_stamped s m f l m' st k = rw st.after (record {
  kept = record { in_order = moved_in_order s m f l m' st k.in_order; stamps = stamps };
  histories = λ q. longer q ∙ ap (λ (h : List QueueEvent). k.in_order.kept.histories.history q ++ h) (sym (append-nil (queue_events q f (events (l ∷ [])))));
})
  where
    longer : (q : ℕ) → (moved_keeps s m f l m' st k.in_order.kept).histories.history q
        ≡ k.in_order.kept.histories.history q ++ queue_events q f (events (l ∷ []))
    longer =
        let kept = k.in_order.kept in
        histories_grow s m f st.fiber st.counts st.progress st.started kept.ranges kept.histories l st.step st.answered

    stamps : HasStamps s (after_step st) (moved_in_order s m f l m' st k.in_order).kept.histories (moved_in_order s m f l m' st k.in_order).order.moment
    stamps =
        let kept = k.in_order.kept in
        let histories = (moved_keeps s m f l m' st kept).histories in
        subst (HasStamps s (after_step st) histories)
        (sym (order_has_moments s m f st.fiber st.counts st.progress st.started kept.ranges kept.histories l st.step histories longer kept.so kept.requests
        st.answered k.in_order.order))
        (stamps_kept s m f st.fiber st.counts st.progress st.started kept.ranges kept.histories l st.step histories longer kept.so kept.family st.answered
        k.in_order.order k.stamps)

request_stamped : (s : ScriptView) (m : WholeMachine) (f : ℕ) → f < total s → (k : KeptStamped s m)
    → GoesOnStamped s m k (Requests f ∷ []) (requested_from_outside f m)
request_stamped s m f lt k = record {
  kept = record {
    in_order = request_in_order s m f lt k.in_order;
    stamps =
        request_keeps_stamps s m f k.in_order.kept.histories (request_in_order s m f lt k.in_order).kept.histories k.in_order.order.moment (λ q. refl) k.stamps;
  };
  histories = λ q. sym (append-nil (k.in_order.kept.histories.history q));
}

-- the moves after the first one
with_first : (s : ScriptView) (m next last : WholeMachine) (k : KeptStamped s m) (v : Move) (vs : List Move) (one : GoesOnStamped s m k (v ∷ []) next)
    → GoesOnStamped s next one.kept vs last → GoesOnStamped s m k (v ∷ vs) last
with_first s m next last k v vs one rest = record {
  kept = rest.kept;
  histories = λ q.
      rest.histories q ∙ ap (λ (h : List QueueEvent). h ++ queue_moves q vs) (one.histories q)
      ∙ append_assoc (k.in_order.kept.histories.history q) (queue_moves q (v ∷ [])) (queue_moves q vs)
      ∙ ap (λ (h : List QueueEvent). k.in_order.kept.histories.history q ++ h) (sym (moves_after q v vs));
}
  where
    moves_after : (q : ℕ) (v : Move) (vs : List Move) → queue_moves q (v ∷ vs) ≡ queue_moves q (v ∷ []) ++ queue_moves q vs
    moves_after q (Steps f l) vs = ap (λ (h : List QueueEvent). h ++ queue_moves q vs) (sym (append-nil (queue_events q f (events (l ∷ [])))))
    moves_after q (Requests f) vs = refl

leads_stamped : (s : ScriptView) (m : WholeMachine) (vs : List Move) (last : WholeMachine) → WholeMachineLeads s m vs last → (k : KeptStamped s m)
    → GoesOnStamped s m k vs last
leads_stamped s m [] last r k = rw r (record { kept = k; histories = λ q. sym (append-nil (k.in_order.kept.histories.history q)) })
leads_stamped s m (Steps f l ∷ vs) last r k =
    let one = step_stamped s m f l r.0 r.1 k in with_first s m r.0 last k (Steps f l) vs one (leads_stamped s r.0 vs last r.2 one.kept)
leads_stamped s m (Requests f ∷ vs) last r k =
    let one : GoesOnStamped s m k (Requests f ∷ []) r.0 = rw r.1.1 (request_stamped s m f r.1.0 k) in
    with_first s m r.0 last k (Requests f) vs one (leads_stamped s r.0 vs last r.2 one.kept)

-- what the last machine of a run keeps
run_stamped : (s : ScriptView) (moves : List Move) (last : WholeMachine) → WholeMachineLeads s (opening s) moves last
    → GoesOnStamped s (opening s) (opening_stamped s) moves last
run_stamped s moves last run = leads_stamped s (opening s) moves last run (opening_stamped s)

module _ (s : ScriptView) (m : WholeMachine) (k : KeptStamped s m) where
  -- however it is told what the queues are left as and who was requested from outside
  module _ (IsLeft : ℕ → QueueState → Type 0) (IsFromOutside : ℕ → Type 0)
      (left : (q : ℕ) (state : QueueState) → IsLeft q state → state ≡ k.in_order.kept.histories.state q)
      (outside : (f : ℕ) → m.from_outside f ≡ true → IsFromOutside f) where
    took : (f i g j : ℕ) → TakesWhatWasPut (trace_of m) IsLeft f i g j → k.stamps.cause f i ≡ stamp_at m g j
    took f i g j t =
        let histories = k.in_order.kept.histories in
        let own = k.stamps.queues.reading t.queue in
        cause_is_of_put (capacity_of s t.queue) t.queue (histories.history t.queue) own.stamps (histories.state t.queue) own.last (trace_of m) (stamp_at m)
        k.stamps.cause (histories.legal t.queue) own.legal own.alike own.cuts f i g j t.value t.value t.taking t.got
        (subst (λ (x : QueueState). taking_of x f (length (values_got t.queue (take i (trace_of m f)))) ≡ Some t.taking) (left t.queue t.state t.left) t.taken)
        t.fiber t.put t.nth

    learnt : (f i g j : ℕ) → LearnsOfEnd (trace_of m) (labels_of m) f i g j → k.stamps.cause f i ≡ stamp_at m g j
    learnt f i g j t = k.stamps.learnt f i g t.outcome t.learning t.learns ∙ k.stamps.ends g g j (event.Ended t.outcome) refl t.ended

    saw : (f i : ℕ) → slice_get (trace_of m f) i ≡ Some event.Seen
        → IsRequestStamp (trace_of m) (stamp_at m) f (k.stamps.cause f i) ⊎ (IsFromOutside f × (k.stamps.cause f i ≡ 0))
    saw f i at = elim (k.stamps.seen f i at).is [
      | inl r ↦ inl (record { by = r.by; place = r.place; request = r.request; is = r.is })
      | inr none ↦ by_outside (m.from_outside f) refl none.0 none.1
    ]
      where
        by_outside : (b : Bool) → m.from_outside f ≡ b → k.stamps.cause f i ≡ 0 → ((g j : ℕ) → slice_get (trace_of m g) j ≡ Some (event.Request f)
            → k.in_order.order.moment g j < k.in_order.order.moment f i → ⊥)
            → IsRequestStamp (trace_of m) (stamp_at m) f (k.stamps.cause f i) ⊎ (IsFromOutside f × (k.stamps.cause f i ≡ 0))
        by_outside true is nothing none = inr (outside f is, nothing)
        by_outside false is nothing none =
            absurd (let r = k.in_order.order.in_order.requested f i at (λ out. (let no : false ≡ true = sym is ∙ out in cc)) in
            none r.by r.place r.request r.before)

    machine_is_stamped : IsStamped (trace_of m) (labels_of m) IsLeft IsFromOutside m.stamps.began (stamp_at m) k.stamps.cause
    machine_is_stamped = record {
      main = k.stamps.main;
      child = λ f g j at. k.stamps.starts f g j (event.Start f) refl at;
      causes = λ f i e at. record {
        took = took f i;
        learnt = learnt f i;
        saw = λ is. saw f i (at ∙ ap Some is);
        none = (k.stamps.own f).none i e at;
      };
      each = λ f. (k.stamps.own f).each;
    }

module _ (s : ScriptView) (m : WholeMachine) (r : ReportView) (rep : IsReportOf s m r) (k : KeptStamped s m) (none : IsSettled s m) where
  -- the report tells the stamps of the machine
  stamps_same : (f : ℕ) → stamps_of_report (fiber_in r f) ≡ m.stamps.trace f
  stamps_same f = ap stamps_of_report (rep.fibers f) ∙ by_fiber (m.fibers f) refl
    where
      no_stamps_of : (ts : List ℕ) → length ts ≡ 0 → [] ≡ ts
      no_stamps_of [] e = refl
      no_stamps_of (t ∷ ts) e = absurd cc

      by_fiber : (o : Option StartedFiber) → m.fibers f ≡ o → stamps_of_report (report_of_fiber f (m.stamps.trace f) o) ≡ m.stamps.trace f
      by_fiber None is =
          no_stamps_of (m.stamps.trace f) (k.stamps.one_each f ∙ ap (λ (o : Option StartedFiber). length (events (labels_of_fiber o))) is)
      by_fiber (Some y) is = refl

  traces_same : trace_of m ≡ trace_in r
  traces_same = fun_ext (λ f. sym (trace_same s m r rep k.in_order.kept f))

  numbers_same : stamp_at m ≡ stamp_in r
  numbers_same = fun_ext (λ f. fun_ext (λ i. ap (λ (ts : List ℕ). number_in ts i) (sym (stamps_same f))))

  stamped_told : {trace : ℕ → List Event} {labels : ℕ → List Label} {stamp : ℕ → ℕ → ℕ} (IsLeft : ℕ → QueueState → Type 0)
      → ((q : ℕ) (state : QueueState) → IsLeft q state → state ≡ k.in_order.kept.histories.state q)
      → trace_of m ≡ trace → labels_of m ≡ labels → stamp_at m ≡ stamp
      → IsStamped trace labels IsLeft (Contains r.outside) m.stamps.began stamp k.stamps.cause
  stamped_told IsLeft left traces labels stamps =
      rw (← traces, ← labels, ← stamps)
      (machine_is_stamped s m k IsLeft (Contains r.outside) left (λ f is. passing_contained r.outside f (rep.outside f ∙ is)))

  seen_told : {trace : ℕ → List Event} {stamp : ℕ → ℕ → ℕ} → trace_of m ≡ trace → stamp_at m ≡ stamp
      → AreGreatest trace stamp k.in_order.order.moment k.stamps.cause
  seen_told traces stamps = rw (← traces, ← stamps) k.stamps.seen

  report_is_stamped : IsStampedInOneList s (λ f. true) r
  unfolding lawful report_in_order report_is_in_order
  report_is_stamped = record {
    in_list = report_is_in_order s m r rep k.in_order none;
    one_each = λ f. ap length (stamps_same f) ∙ k.stamps.one_each f ∙ sym (ap length (trace_same s m r rep k.in_order.kept f));
    began = m.stamps.began;
    cause = k.stamps.cause;
    are =
        stamped_told (LeavesQueue s (λ f. true) r (lawful s m r rep k.in_order none))
        (λ q state is. is ∙ queues_told s m r rep k.in_order.kept none q) traces_same
        (sym (labels_told s m r rep k.in_order.kept none)) numbers_same;
    seen = seen_told traces_same numbers_same;
  }

-- the report of a run at whose end no fiber can step has stamps of the definition, and those of the requests seen are the greatest so far
pub settled_is_stamped : (s : ScriptView) (r : ReportView) → HasSettledRun s r → IsStampedInOneList s (λ f. true) r
settled_is_stamped s r h = report_is_stamped s h.last r h.report (run_stamped s h.moves h.last h.run).kept h.settled

-- so it is lawful with them, and they give one order in which causes come first
pub settled_is_lawful_with_stamps : (s : ScriptView) (r : ReportView) → HasSettledRun s r → IsLawfulWithStamps s (λ f. true) r (stamp_in r)
settled_is_lawful_with_stamps s r h = by_stamps (settled_is_stamped s r h)
  where
    by_stamps : IsStampedInOneList s (λ f. true) r → IsLawfulWithStamps s (λ f. true) r (stamp_in r)
    by_stamps h = record {
      lawful = h.in_list.in_order.lawful;
      began = h.began;
      cause = h.cause;
      are = h.are;
      ordered =
          λ below. ordered_by_stamps s (λ f. true) r h.in_list.in_order.lawful
          (record { began = h.began; stamp = stamp_in r; cause = h.cause; are = h.are }) below;
    }

-- the labels by which it is so are those of the last machine
pub settled_labels : (s : ScriptView) (r : ReportView) (h : HasSettledRun s r)
    → (settled_is_lawful_with_stamps s r h).lawful.runs.labels ≡ labels_of h.last
unfolding settled_is_lawful_with_stamps settled_is_stamped report_is_stamped report_is_in_order lawful
settled_labels s r h = labels_told s h.last r h.report (run_stamped s h.moves h.last h.run).kept.in_order.kept h.settled

-- and the histories are what its moves do to the queues
pub settled_histories : (s : ScriptView) (r : ReportView) (h : HasSettledRun s r) (q : ℕ)
    → ((settled_is_lawful_with_stamps s r h).lawful.histories q).history ≡ queue_moves q h.moves
unfolding settled_is_lawful_with_stamps settled_is_stamped report_is_stamped report_is_in_order lawful opening_stamped
settled_histories s r h q =
    let run = run_stamped s h.moves h.last h.run in
    histories_told s h.last r h.report run.kept.in_order.kept h.settled q ∙ run.histories q
    ∙ ap (λ (past : List QueueEvent). past ++ queue_moves q h.moves) (opening_has_no_history s q)
