-- The events of a run of the whole machine stand in one list, in which causes come first.
use Rattle.std.proofs.Common.{◌≡◌, ℕ, true, Contains, List, [], ◌∷◌, sym, ◌∙◌, ap, ◌<◌}
use Rattle.std.specs.Prelude.{slice_get}
use mathlib.Core.Path.{fun_ext}
use Rattle.fx_term.specs.declared.event.Event.{Event}
use Rattle.fx_term.specs.Script.{ScriptView, total}
use Rattle.fx_term.specs.Queue.{QueueState}
use Rattle.fx_model.specs.Row.{Label}
use Rattle.fx_model.specs.Report.{ReportView}
use Rattle.fx_model.specs.LawfulReport.{IsLawfulReport}
use Rattle.fx_model.specs.Causes.{LeavesQueue, CausesComeFirst, IsOneOrder}
use Rattle.fx_model.specs.Happenings.{IsLawfulInOneList}
use Rattle.fx_model.proofs.OneOrder.{order_told}
use Rattle.fx_plain.specs.WholeMachine.{WholeMachine, Move, Steps, Requests, opening, IsSettled, FiberSteps, requested_from_outside, WholeMachineLeads}
use Rattle.fx_plain.specs.SettledRun.{IsReportOf, HasSettledRun}
use Rattle.fx_report.proofs.Keys.{passing_contained}
use Rattle.fx_plain.proofs.FamilyKept.{labels_of}
use Rattle.fx_plain.proofs.HistoriesKept.{opening_has_no_history, histories_grow}
use Rattle.fx_plain.proofs.LawfulRuns.{IsKept, opening_is_kept, after_step, moved_keeps, request_keeps}
use Rattle.fx_plain.proofs.LawfulRuns.{trace_same, report_is_lawful, labels_told, queues_told, histories_told}
use Rattle.fx_plain.proofs.WholeMachineSteps.{with_true}
use Rattle.fx_plain.proofs.CausesKept.{trace_of, AreLeft, AreFromOutside, IsInOrder, opening_is_in_order, order_kept}

-- what each machine of a run keeps, with one order of its events so far
pub record KeptInOrder (s : ScriptView) (m : WholeMachine) : Type 0 where
  pub kept : IsKept s m
  pub order : IsInOrder s m kept.histories

abbrev pub opening_in_order : (s : ScriptView) → KeptInOrder s (opening s)
opening_in_order s = record { kept = opening_is_kept s; order = opening_is_in_order s (opening_is_kept s).histories (opening_has_no_history s) }

abbrev pub moved_in_order : (s : ScriptView) (m : WholeMachine) (f : ℕ) (l : Label) (m' : WholeMachine) (st : FiberSteps s m f l m') → KeptInOrder s m
    → KeptInOrder s (after_step st)
moved_in_order s m f l m' st k = record {
  kept = moved_keeps s m f l m' st k.kept;
  order =
      order_kept s m f st.fiber st.counts st.progress st.started k.kept.ranges k.kept.histories l st.step (moved_keeps s m f l m' st k.kept).histories
      (histories_grow s m f st.fiber st.counts st.progress st.started k.kept.ranges k.kept.histories l st.step st.answered) k.kept.so k.kept.requests
      st.answered k.order;
}

step_in_order : (s : ScriptView) (m : WholeMachine) (f : ℕ) (l : Label) (m' : WholeMachine) → FiberSteps s m f l m' → KeptInOrder s m → KeptInOrder s m'
step_in_order s m f l m' st k = rw st.after (moved_in_order s m f l m' st k)

abbrev pub request_in_order : (s : ScriptView) (m : WholeMachine) (f : ℕ) → f < total s → KeptInOrder s m → KeptInOrder s (requested_from_outside f m)
request_in_order s m f lt k = record {
  kept = request_keeps s m f lt k.kept;
  order = record {
    moment = k.order.moment;
    list = k.order.list;
    listed = k.order.listed;
    past = k.order.past;
    in_order =
        order_told (trace_of m) (labels_of m) (AreLeft k.kept.histories) (AreLeft k.kept.histories) (AreFromOutside m)
        (AreFromOutside (requested_from_outside f m)) k.order.moment (λ q state is. is) (λ g is. with_true f m.from_outside g is) k.order.in_order;
  };
}

leads_in_order : (s : ScriptView) (m : WholeMachine) (vs : List Move) (last : WholeMachine) → WholeMachineLeads s m vs last → KeptInOrder s m
    → KeptInOrder s last
leads_in_order s m [] last r k = rw r k
leads_in_order s m (Steps f l ∷ vs) last r k = leads_in_order s r.0 vs last r.2 (step_in_order s m f l r.0 r.1 k)
leads_in_order s m (Requests f ∷ vs) last r k = leads_in_order s r.0 vs last r.2 (rw r.1.1 (request_in_order s m f r.1.0 k))

module _ (s : ScriptView) (m : WholeMachine) (r : ReportView) (rep : IsReportOf s m r) (k : KeptInOrder s m) (none : IsSettled s m) where
  unfoldable pub lawful : IsLawfulReport s (λ f. true) r
  lawful = report_is_lawful s m r rep k.kept none

  -- the order of the machine's events is one of those of its report
  unfoldable pub report_in_order : CausesComeFirst s (λ f. true) r lawful
  unfolding lawful
  report_in_order = record {
    moment = k.order.moment;
    in_order = by_report (fun_ext (λ f. sym (trace_same s m r rep k.kept f))) (sym (labels_told s m r rep k.kept none));
  }
    where
      left : (q : ℕ) (state : QueueState) → LeavesQueue s (λ f. true) r lawful q state → AreLeft k.kept.histories q state
      left q state is = is ∙ queues_told s m r rep k.kept none q

      by_report : {trace : ℕ → List Event} {labels : ℕ → List Label} → trace_of m ≡ trace → labels_of m ≡ labels
          → IsOneOrder trace labels (LeavesQueue s (λ f. true) r lawful) (Contains r.outside) k.order.moment
      by_report same same' =
          rw (← same, ← same') (order_told (trace_of m) (labels_of m) (AreLeft k.kept.histories) (LeavesQueue s (λ f. true) r lawful) (AreFromOutside m)
          (Contains r.outside) k.order.moment left (λ f is. passing_contained r.outside f (rep.outside f ∙ is)) k.order.in_order)

  -- and its list is one of the report's
  unfoldable pub report_is_in_order : IsLawfulInOneList s (λ f. true) r
  unfolding lawful report_in_order
  report_is_in_order = record {
    in_order = record { lawful = lawful; causes = report_in_order };
    list = k.order.list;
    listed = record {
      traces = λ f. k.order.listed.traces f ∙ sym (trace_same s m r rep k.kept f);
      histories = λ q. k.order.listed.histories q ∙ sym (histories_told s m r rep k.kept none q);
      moments = λ f i e at. k.order.listed.moments f i e (sym (ap (λ (es : List Event). slice_get es i) (trace_same s m r rep k.kept f)) ∙ at);
    };
  }

-- the report of a run at whose end no fiber can step is lawful, and its events stand in one list, in which causes come first
pub settled_is_in_order : (s : ScriptView) (r : ReportView) → HasSettledRun s r → IsLawfulInOneList s (λ f. true) r
settled_is_in_order s r h =
    report_is_in_order s h.last r h.report (leads_in_order s (opening s) h.moves h.last h.run (opening_in_order s)) h.settled
