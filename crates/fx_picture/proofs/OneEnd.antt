-- A trace of a lawful report shows one end, as its last event; so an event that learns of an end stands on one.
use Rattle.std.proofs.Common.{◌≡◌, ℕ, zero, suc, ◌+◌, Bool, Option, Some, None, List, [], ◌∷◌, ◌++◌, length, refl, sym, ◌∙◌, ap, subst, arith, inl, inr}
use Rattle.std.specs.Prelude.{slice_get}
use Rattle.std.proofs.lemmas.Bool.{cases_lt}
use Rattle.std.proofs.lemmas.List.{length-append}
use Rattle.std.proofs.lemmas.Option.{none-some, same_Some, slice_get_within}
use Rattle.fx_term.specs.declared.outcome.Outcome.{Outcome}
use Rattle.fx_term.specs.declared.event.Event.{Event}
use Rattle.fx_term.specs.declared.event.Event.TheVariants as event
use Rattle.fx_term.specs.Script.{ScriptView}
use Rattle.fx_model.specs.Causes.{LearnsOfEnd}
use Rattle.fx_model.specs.Headline.{StopsAt}
use Rattle.fx_model.specs.LawfulReport.{IsLawfulReport}
use Rattle.fx_model.specs.Outside.{outcome_at}
use Rattle.fx_model.specs.Report.{FiberReportView, ReportView, fiber_in, trace_of_report, trace_in, outcome_shown}
use Rattle.fx_model.specs.Row.{Learns}
use Rattle.fx_model.specs.Run.{events}
use Rattle.fx_model.proofs.Appended.{stood_at}
use Rattle.fx_model.proofs.OutcomeLaws.{run_stops, run_outcome}

-- an end is shown
shown_end : (es : List Event) (j : ℕ) (o : Outcome) → slice_get es j ≡ Some (event.Ended o) → outcome_shown es ≡ None → ⊥
shown_end [] j o at none = absurd (none-some (event.Ended o) at)
shown_end (e ∷ es) zero o at none =
    absurd (none-some o (sym none ∙ ap (λ (d : Event). outcome_shown (d ∷ es)) (same_Some e (event.Ended o) at)))
shown_end (event.Ended v ∷ es) (suc j) o at none = absurd (none-some v (sym none))
shown_end (e ∷ es) (suc j) o at none = shown_end es j o at none

-- so a trace that stops has none but the last
at_stop : (es : List Event) (v : Outcome) → StopsAt es v → (j : ℕ) (o : Outcome) → slice_get es j ≡ Some (event.Ended o) → suc j ≡ length es
at_stop es v stops j o at =
    let before = stops.ends.before in
    let there : slice_get (before ++ event.Ended v ∷ []) j ≡ Some (event.Ended o) = ap (λ (l : List Event). slice_get l j) (sym stops.ends.is) ∙ at in
    let many : length es ≡ length before + 1 = ap length stops.ends.is ∙ length-append before (event.Ended v ∷ []) in
    let within = slice_get_within es j (event.Ended o) at in
    elim (cases_lt j (length before)) [
      | inl lt ↦ absurd (shown_end before j o (stood_at before (event.Ended v ∷ []) j (event.Ended o) lt there) stops.no_other)
      | inr le ↦ omega (arith, many, within)
    ]

module _ (s : ScriptView) (may : ℕ → Bool) (r : ReportView) (lawful : IsLawfulReport s may r) where
  pub last_end : (g j : ℕ) (o : Outcome) → slice_get (trace_in r g) j ≡ Some (event.Ended o) → suc j ≡ length (trace_in r g)
  last_end g j o at = by_fiber (fiber_in r g) refl
    where
      by_fiber : (z : Option FiberReportView) → fiber_in r g ≡ z → suc j ≡ length (trace_in r g)
      by_fiber None none = absurd (none-some (event.Ended o) (sym (ap (λ (z : Option FiberReportView). slice_get (trace_of_report z) j) none) ∙ at))
      by_fiber (Some x) there =
          let run = lawful.runs.run g x there in
          let trace_is : trace_in r g ≡ events (lawful.runs.labels g) = ap trace_of_report there ∙ sym run.trace in
          let at' : slice_get (events (lawful.runs.labels g)) j ≡ Some (event.Ended o) = ap (λ (es : List Event). slice_get es j) (sym trace_is) ∙ at in
          by_outcome trace_is at' (outcome_at (lawful.runs.progress g)) refl
        where
          by_outcome : trace_in r g ≡ events (lawful.runs.labels g) → slice_get (events (lawful.runs.labels g)) j ≡ Some (event.Ended o)
              → (v : Option Outcome) → outcome_at (lawful.runs.progress g) ≡ v → suc j ≡ length (trace_in r g)
          by_outcome trace_is at' None goes =
              let run = lawful.runs.run g x there in
              absurd (shown_end (events (lawful.runs.labels g)) j o at'
              (run_outcome (lawful.runs.origin g) (lawful.runs.labels g) (lawful.runs.counts g) (lawful.runs.progress g) run.run ∙ goes))
          by_outcome trace_is at' (Some v) ended =
              let run = lawful.runs.run g x there in
              at_stop (events (lawful.runs.labels g)) v
              (run_stops (lawful.runs.origin g) (lawful.runs.labels g) (lawful.runs.counts g) (lawful.runs.progress g) v run.run ended) j o at'
              ∙ ap length (sym trace_is)

  pub one_end : (f i g j h k : ℕ) → LearnsOfEnd (trace_in r) lawful.runs.labels f i g j → LearnsOfEnd (trace_in r) lawful.runs.labels f i h k
      → (g ≡ h) × (j ≡ k)
  one_end f i g j h k so so' =
      let label_is : Learns g so.outcome so.learning ≡ Learns h so'.outcome so'.learning =
      same_Some (Learns g so.outcome so.learning) (Learns h so'.outcome so'.learning) (sym so.learns ∙ so'.learns) in
      let fiber_is : g ≡ h = cc in
      let first = last_end h j so.outcome (subst (λ (b : ℕ). slice_get (trace_in r b) j ≡ Some (event.Ended so.outcome)) fiber_is so.ended) in
      let second = last_end h k so'.outcome so'.ended in
      (fiber_is, omega (arith, first, second))
