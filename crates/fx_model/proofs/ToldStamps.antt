-- What fibers, words and queues tell makes the stamps those of the definition.
use Rattle.std.proofs.Common.{◌≡◌, ℕ, Bool, Some, sym, ◌∙◌, ap, subst, ◌⊎◌, inl, inr, Contains}
use Rattle.std.specs.Prelude.{slice_get, take, length}
use Rattle.std.proofs.lemmas.Option.{same_Some}
use Rattle.fx_term.specs.declared.event.Event.{Event}
use Rattle.fx_term.specs.declared.event.Event.TheVariants as event
use Rattle.fx_term.specs.Script.{ScriptView}
use Rattle.fx_term.specs.Queue.{QueueState}
use Rattle.fx_model.specs.Report.{ReportView, trace_in, capacity_of}
use Rattle.fx_model.specs.LawfulReport.{IsLawfulReport}
use Rattle.fx_model.specs.Causes.{values_got, taking_of, TakesWhatWasPut, LearnsOfEnd, LeavesQueue, IsLawfulInOneOrder}
use Rattle.fx_model.specs.Stamps.{IsRequestStamp, IsCauseStamp, IsStamped, IsBelowTop}
use Rattle.fx_model.specs.StampedQueue.{AreStampedHistories}
use Rattle.fx_model.specs.ToldStamps.{StampsEntry, AreTold}
use Rattle.fx_model.proofs.StampedReports.{ordered_by_stamps}
use Rattle.fx_model.proofs.TakenStamps.{cause_is_of_put}

module _ (s : ScriptView) (may : ℕ → Bool) (r : ReportView) (lawful : IsLawfulReport s may r) where
  -- the stamps that go through the queues are those of the puts of what is taken
  pub took_stamp : (stamp cause : ℕ → ℕ → ℕ) → AreStampedHistories s may r lawful stamp cause
      → (f i g j : ℕ) → TakesWhatWasPut (trace_in r) (LeavesQueue s may r lawful) f i g j → cause f i ≡ stamp g j
  took_stamp stamp cause told f i g j t =
      let h = told t.queue in
      let own = lawful.histories t.queue in
      let capacity = capacity_of s t.queue in
      cause_is_of_put capacity t.queue own.history h.stamps own.leaves.last h.last (trace_in r) stamp cause
      own.leaves.legal h.legal h.alike h.cuts f i g j t.value t.value t.taking t.got
      (subst (λ (state : QueueState). taking_of state f (length (values_got t.queue (take i (trace_in r f)))) ≡ Some t.taking) t.left t.taken)
      t.fiber t.put t.nth

  module _ (entry : ℕ → StampsEntry) (stamp cause : ℕ → ℕ → ℕ) (told : AreTold s may r lawful entry stamp cause) where
    learnt_stamp : (f i g j : ℕ) → LearnsOfEnd (trace_in r) lawful.runs.labels f i g j → cause f i ≡ stamp g j
    learnt_stamp f i g j l =
        let found = (told.agree f).found i g l.outcome l.learning l.learns in
        let there = told.closed.learnt f g (cause f i) found in
        let ended = (told.agree g).ended j l.outcome l.ended in
        same_Some (cause f i) (stamp g j) (sym there ∙ ended)

    seen_stamp : (f i : ℕ) → slice_get (trace_in r f) i ≡ Some event.Seen
        → IsRequestStamp (trace_in r) stamp f (cause f i) ⊎ (Contains r.outside f × (cause f i ≡ 0))
    seen_stamp f i e =
        let by = told.closed.seen f (cause f i) ((told.agree f).saw i e) in
        elim ((told.agree by.0).asked f (cause f i) by.1) [
          | inl q ↦ inl (record { by = by.0; place = q.0; request = q.1; is = q.2 })
          | inr o ↦ inr o
        ]

    cause_stamp : (f i : ℕ) (e : Event) → slice_get (trace_in r f) i ≡ Some e
        → IsCauseStamp (trace_in r) lawful.runs.labels (LeavesQueue s may r lawful) (Contains r.outside) stamp f i e (cause f i)
    cause_stamp f i e at = record {
      took = took_stamp stamp cause told.queues f i;
      learnt = learnt_stamp f i;
      saw = λ is. seen_stamp f i (at ∙ ap Some is);
      none = (told.own f).none i e at;
    }

    pub told_is_stamped : IsStamped (trace_in r) lawful.runs.labels (LeavesQueue s may r lawful) (Contains r.outside) (λ f. (entry f).began) stamp cause
    told_is_stamped = record {
      main = told.closed.main;
      child = λ f g j e. told.closed.split g f (stamp g j) ((told.agree g).started f j e);
      causes = cause_stamp;
      each = λ f. (told.own f).each;
    }

    pub told_in_order : IsBelowTop (trace_in r) stamp → IsLawfulInOneOrder s may r
    told_in_order below =
        let o = ordered_by_stamps s may r lawful (record { began = λ f. (entry f).began; stamp = stamp; cause = cause; are = told_is_stamped }) below in
        record { lawful = lawful; causes = record { moment = o.moment; in_order = o.in_order } }
