-- What a replay under the schedule of a finding prints, and with which status.
use Rattle.std.proofs.Common.{◌≡◌, ℕ, Bool, true, false, Option, Some, None, List, [], ◌∷◌, All, IfSome, map, refl, sym, ◌∙◌, ap, subst}
use Rattle.std.specs.Prelude.{◌&&◌, ◌||◌, not, is_some, if◌then◌else◌}
use Rattle.std.specs.List.{list_all, list_any}
use Rattle.std.proofs.lemmas.List.Elements.{All-head, All-tail}
use Rattle.std.proofs.lemmas.Option.{none-some, same_Some}
use Rattle.fx_term.specs.Script.{ScriptView}
use Rattle.fx_explore.specs.Setting.{Setting}
use Rattle.fx_model.specs.Outside.{outcome_at}
use Rattle.fx_model.specs.Report.{FiberReportView, ReportView, fiber_in, outcome_shown}
use Rattle.fx_model.specs.Run.{events}
use Rattle.fx_model.specs.Step.{Progress, Runs, Unwinds, CleansUp, HasEnded, has_ended}
use Rattle.fx_model.proofs.OutcomeLaws.{run_outcome}
use Rattle.fx_report.specs.Status.{status_of}
use Rattle.fx_report.specs.Text.{report_text}
use Rattle.fx_report.specs.declared.status.TheConstants.{ENDED, BLOCKED}
use Rattle.fx_report.proofs.Keys.{all_found}
use Rattle.fx_text.specs.declared.pick.Pick.{Pick}
use Rattle.fx_plain.specs.Chosen.{IsReplay}
use Rattle.fx_plain.specs.SettledRun.{report_of_fiber, HasSettledRun, IsReportOf}
use Rattle.fx_plain.specs.WholeMachine.{StartedFiber, WholeMachine}
use Rattle.fx_plain.proofs.ChosenRuns.{replay_settles}
use Rattle.fx_plain.proofs.LawfulRuns.{IsKept, run_keeps}
use Rattle.fx_plain.proofs.OneReport.{one_replay}
use Rattle.fx_explore.specs.Told.{HaltedFiber, Told, halt_of, told_of}
use Rattle.fx_explore.proofs.ToldReports.{text_is_told}
use Rattle.fx_findings.specs.declared.explored.Finding.{Finding}
use Rattle.fx_findings.specs.Explored.{view_told, schedule_of, is_blocked, IsFinding}
use Rattle.fx_findings.specs.Printed.{TellsSo}

-- a fiber has an outcome that is told just where it has ended
IsToldEnded : FiberReportView → Type 0
IsToldEnded x = is_some (outcome_shown x.trace) ≡ x.has_ended

ended_at : (p : Progress) → is_some (outcome_at p) ≡ has_ended p
ended_at (HasEnded o) = refl
ended_at (Runs t) = refl
ended_at (Unwinds rest) = refl
ended_at (CleansUp k t rest) = refl

module _ (s : ScriptView) (m : WholeMachine) (r : ReportView) (kept : IsKept s m) (rep : IsReportOf s m r) where
  told_ended : (f : ℕ) (x : FiberReportView) → fiber_in r f ≡ Some x → IsToldEnded x
  unfolding IsToldEnded
  told_ended f x e = by_fiber (m.fibers f) refl
    where
      by_fiber : (o : Option StartedFiber) → m.fibers f ≡ o → is_some (outcome_shown x.trace) ≡ x.has_ended
      by_fiber None is = absurd (none-some x (sym (ap (report_of_fiber f (m.stamps.trace f)) is) ∙ sym (rep.fibers f) ∙ e))
      by_fiber (Some y) is =
          let there : FiberReportView = record {
            id = f;
            parent = y.parent;
            has_ended = has_ended y.progress;
            trace = events y.labels;
            stamps = m.stamps.trace f;
          } in
          let same : there ≡ x =
          same_Some _ x (sym (ap (report_of_fiber f (m.stamps.trace f)) is) ∙ sym (rep.fibers f) ∙ e) in
          subst (λ (z : FiberReportView). is_some (outcome_shown z.trace) ≡ z.has_ended) same
          (ap is_some (run_outcome y.origin y.labels y.counts y.progress (kept.family.runs f y is)) ∙ ended_at y.progress)

  each_told : All IsToldEnded r.fibers
  each_told = all_found (λ (x : FiberReportView). x.id) IsToldEnded r.fibers rep.ascending told_ended

one_more : (a b : Bool) (p q : Bool) → a ≡ b → p ≡ not q → (not a || p) ≡ not (b && q)
one_more true true p q e f = f
one_more true false p q e f = absurd cc
one_more false true p q e f = absurd cc
one_more false false p q e f = refl

blocked_told : (xs : List FiberReportView) → All IsToldEnded xs
    → list_any (λ (h : HaltedFiber). not (is_some h.outcome)) (map halt_of xs) ≡ not (list_all (λ (x : FiberReportView). x.has_ended) xs)
unfolding IsToldEnded
blocked_told [] a = refl
blocked_told (x ∷ xs) a =
    one_more (is_some (outcome_shown x.trace)) x.has_ended _ _ (All-head IsToldEnded x xs a) (blocked_told xs (All-tail IsToldEnded x xs a))

status_told : (b t : Bool) → t ≡ not b → (if b then ENDED else BLOCKED) ≡ (if t then BLOCKED else ENDED)
status_told true t e = rw e refl
status_told false t e = rw e refl

-- what is printed of a report, and its status, are those of what is told of it
pub tells_report : (s : ScriptView) (r : ReportView) (names : List (List ℕ)) → HasSettledRun s r → TellsSo names (told_of r) (report_text names r) (status_of r)
tells_report s r names h =
    let kept = run_keeps s h.moves h.last h.run in
    record {
      printed = text_is_told s h.last r kept h.report names;
      answered = status_told (list_all (λ (x : FiberReportView). x.has_ended) r.fibers) (is_blocked (told_of r))
          (blocked_told r.fibers (each_told s h.last r kept h.report));
    }

-- so are those of a replay by the schedule of a finding
pub tells_replay : (s : Setting) (x : Finding) (names : List (List ℕ)) → IsFinding s x
    → IfSome (schedule_of x) (λ ps. (r : ReportView) → IsReplay s.script ps r → TellsSo names (view_told x.told) (report_text names r) (status_of r))
tells_replay s x names h = by_schedule (schedule_of x) h.replayed
  where
    by_schedule : (o : Option (List Pick)) → IfSome o (λ ps. IsReplay s.script ps h.report)
        → IfSome o (λ ps. (r : ReportView) → IsReplay s.script ps r → TellsSo names (view_told x.told) (report_text names r) (status_of r))
    by_schedule None own = tt
    by_schedule (Some ps) own = λ r replay.
        let same : told_of r ≡ view_told x.told = ap told_of (one_replay s.script ps r h.report replay own) ∙ h.told in
        subst (λ (t : Told). TellsSo names t (report_text names r) (status_of r)) same
        (tells_report s.script r names (replay_settles s.script ps r replay))
