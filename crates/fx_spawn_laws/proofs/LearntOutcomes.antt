-- The outcome that a fiber learnt of another one is the one that the other's trace tells.
use Rattle.std.proofs.Common.{◌≡◌, ℕ, Option, Some, None, Bool, List, [], ◌∷◌, ◌++◌, refl, sym, ◌∙◌, ap}
use Rattle.std.proofs.lemmas.Option.{none-some}
use Rattle.fx_term.specs.declared.outcome.Outcome.{Outcome}
use Rattle.fx_term.specs.declared.event.Event.{Event}
use Rattle.fx_term.specs.declared.event.Event.TheVariants as event
use Rattle.fx_term.specs.Script.{ScriptView}
use Rattle.fx_model.specs.Run.{events}
use Rattle.fx_model.specs.Outside.{outcome_at}
use Rattle.fx_model.specs.Report.{FiberReportView, ReportView, fiber_in, trace_of_report, trace_in, outcome_shown}
use Rattle.fx_model.specs.LawfulReport.{EndsWith, HasRun, IsLawfulReport}
use Rattle.fx_model.proofs.OutcomeLaws.{run_outcome, run_stops}

abbrev last_event : List Event → Option Event
last_event [] = None
last_event (e ∷ []) = Some e
last_event (e ∷ (k ∷ es)) = last_event (k ∷ es)

last_appended : (es : List Event) (e : Event) → last_event (es ++ e ∷ []) ≡ Some e
last_appended [] e = refl
last_appended (k ∷ []) e = refl
last_appended (k ∷ (h ∷ es)) e = last_appended (h ∷ es) e

-- a trace ends with one outcome at most
pub ends_with_one : (trace : List Event) (o v : Outcome) → EndsWith trace o → EndsWith trace v → o ≡ v
ends_with_one trace o v h k =
    let same : Some (event.Ended o) ≡ Some (event.Ended v) =
    sym (last_appended h.before (event.Ended o)) ∙ ap last_event (sym h.is) ∙ ap last_event k.is ∙ last_appended k.before (event.Ended v) in
    cc

-- a trace that ends with an outcome tells one
tells_some : (es : List Event) (o : Outcome) → outcome_shown (es ++ event.Ended o ∷ []) ≡ None → ⊥
tells_some [] o e = none-some o (sym e)
tells_some (event.Ended v ∷ es) o e = none-some v (sym e)
tells_some (_ ∷ es) o e = tells_some es o e

module _ (s : ScriptView) (may : ℕ → Bool) (r : ReportView) (lawful : IsLawfulReport s may r) where
  told : (f : ℕ) (o : Outcome) → EndsWith (trace_in r f) o → (x : Option FiberReportView) → fiber_in r f ≡ x → outcome_shown (trace_in r f) ≡ Some o
  told f o h None at = absurd (let e : last_event [] ≡ Some (event.Ended o) =
      ap last_event (sym (ap trace_of_report at)) ∙ ap last_event h.is ∙ last_appended h.before (event.Ended o) in cc)
  told f o h (Some x) at = by_outcome (outcome_at (lawful.runs.progress f)) refl
    where
      run : HasRun s r f x (lawful.runs.origin f) (lawful.runs.labels f) (lawful.runs.counts f) (lawful.runs.progress f)
      run = lawful.runs.run f x at

      trace : trace_in r f ≡ events (lawful.runs.labels f)
      trace = ap trace_of_report at ∙ sym run.trace

      shown : outcome_shown (trace_in r f) ≡ outcome_at (lawful.runs.progress f)
      shown = ap outcome_shown trace ∙ run_outcome (lawful.runs.origin f) (lawful.runs.labels f) (lawful.runs.counts f) (lawful.runs.progress f) run.run

      by_outcome : (v : Option Outcome) → outcome_at (lawful.runs.progress f) ≡ v → outcome_shown (trace_in r f) ≡ Some o
      by_outcome None is = absurd (tells_some h.before o (sym (ap outcome_shown h.is) ∙ shown ∙ is))
      by_outcome (Some v) is =
          let stops = run_stops (lawful.runs.origin f) (lawful.runs.labels f) (lawful.runs.counts f) (lawful.runs.progress f) v run.run is in
          let same = ends_with_one (trace_in r f) o v h (record { before = stops.ends.before; is = trace ∙ stops.ends.is }) in
          shown ∙ is ∙ ap (λ (w : Outcome). Some w) (sym same)

  pub learnt_outcome : (f : ℕ) (o : Outcome) → EndsWith (trace_in r f) o → outcome_shown (trace_in r f) ≡ Some o
  learnt_outcome f o h = told f o h (fiber_in r f) refl
