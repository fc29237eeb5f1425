-- What is told as the cause of a `first` is the end that its fiber learned of.
use Rattle.std.proofs.Common.{◌≡◌, ℕ, suc, ◌+◌, ◌-◌, ◌≤◌, true, Option, Some, None, List, [], ◌∷◌, ◌++◌, length, refl, sym, ◌∙◌, ap, subst, arith}
use Rattle.std.specs.Prelude.{option_and_then, replicate, slice_get, slice_index_or}
use Rattle.std.proofs.lemmas.Bool.{ne_eqb}
use Rattle.std.proofs.lemmas.Option.{none-some, same_Some}
use Rattle.fx_term.specs.declared.event.Event.{Event}
use Rattle.fx_term.specs.declared.event.Event.TheVariants as event
use Rattle.fx_term.specs.declared.node.Node.{Node}
use Rattle.fx_term.specs.Script.{ScriptView, total}
use Rattle.fx_model.specs.Row.{Label, Silent, Shows, Learns, Starts}
use Rattle.fx_model.specs.Causes.{LearnsOfEnd, LeavesQueue, Needs, end_of_other}
use Rattle.fx_model.specs.LawfulReport.{IsLawfulReport}
use Rattle.fx_model.specs.Report.{ReportView, trace_in}
use Rattle.fx_model.proofs.StepLabels.{IsProper, step_tells}
use Rattle.fx_text.specs.declared.pick.Pick.{Pick}
use Rattle.fx_places.specs.declared.place.FormPlace.{FormPlace}
use Rattle.fx_plain.specs.declared.told.MadeStep.{MadeStep}
use Rattle.fx_plain.specs.declared.told.Told.{Told}
use Rattle.fx_plain.specs.declared.told.Told.TheVariants.{Step, Request, Passed}
use Rattle.fx_plain.specs.WholeMachine.{WholeMachine, Move}
use Rattle.fx_plain.specs.Chosen.{IsChosen, IsReplay}
use Rattle.fx_plain.specs.Chosen as chosen
use Rattle.fx_plain.specs.ToldRun.{happenings, shown_by, learned_by, AreTold, TellsRun, events_told}
use Rattle.fx_plain.proofs.ChosenRuns.{replay_is_stamped_report}
use Rattle.fx_plain.proofs.ToldCauses.{told_learns}
use Rattle.fx_plain.proofs.ToldRuns.{told_is_its_trace}
use Rattle.fx_picture.specs.IsDrawn.{Tells}
use Rattle.fx_command.specs.SoFar.{nothing_shown, last_of, cause_when}
use Rattle.fx_command.specs.StoodEvents.{stood_events}
use Rattle.fx_command.specs.TakesInOrder.{shown_by_all}
use Rattle.fx_command.proofs.CountedEvents.{counted_told}
use Rattle.fx_command.proofs.ShownSteps.{shown_by_step, told_then}
use Rattle.fx_command.proofs.ToldFibers.{first_told_below}

last_is : (shown : List ℕ) (g place : ℕ) → slice_index_or shown g 0 ≡ suc place → last_of shown g ≡ Some (record { fiber = g; place = place })
last_is shown g place is =
    let less : suc place - 1 ≡ place = omega arith in rw (is, ne_eqb (suc place) 0 (λ none. absurd (omega arith)), less) refl

-- the label of a step that shows the first of two learns of an end
learned_of_first : (l : Label) (side : ℕ) → IsProper l → shown_by l ≡ Some (event.First side) → (g : ℕ) × (learned_by l ≡ Some g)
learned_of_first Silent side proper is = absurd (none-some (event.First side) is)
learned_of_first (Shows v) side proper is = absurd (subst (λ (w : Event). IsProper (Shows w)) (same_Some v (event.First side) is) proper)
learned_of_first (Learns g o v) side proper is = (g, refl)
learned_of_first (Starts g b) side proper is = absurd (let same : event.Start g ≡ event.First side = same_Some (event.Start g) (event.First side) is in cc)

module _ (nodes : List Node) (s : ScriptView) where
  first_learned : (place : ℕ) {ps : List Pick} {m last : WholeMachine} {vs : List Move} (c : IsChosen s ps m vs last) (before after : List Told)
      (made : MadeStep) (side : ℕ) → made.event ≡ Some (event.First side) → AreTold nodes s (happenings place c) (before ++ Step made ∷ after)
      → (g : ℕ) × (made.learned ≡ Some g)
  first_learned place (chosen.step {l = l} chose rest) [] after made side shows are =
      let so = learned_of_first l side (step_tells chose.steps.step).proper (sym are.0.event ∙ shows) in (so.0, are.0.learned ∙ so.1)
  first_learned place (chosen.step chose rest) (Step t ∷ before) after made side shows are = first_learned (place + 1) rest before after made side shows are.1
  first_learned place (chosen.no_step cannot rest) (Passed t ∷ before) after made side shows are =
      first_learned (place + 1) rest before after made side shows are.1
  first_learned place (chosen.request below rest) (Request h ∷ before) after made side shows are =
      first_learned (place + 1) rest before after made side shows are.1
  first_learned place (chosen.no_request past rest) (Passed t ∷ before) after made side shows are =
      first_learned (place + 1) rest before after made side shows are.1
  first_learned place (chosen.least {l = l} is chose rest) [] after made side shows are =
      let so = learned_of_first l side (step_tells chose.steps.step).proper (sym are.0.event ∙ shows) in (so.0, are.0.learned ∙ so.1)
  first_learned place (chosen.least is chose rest) (Step t ∷ before) after made side shows are = first_learned place rest before after made side shows are.1
  first_learned place (chosen.halts none) [] after made side shows are = absurd are
  first_learned place (chosen.halts none) (t ∷ before) after made side shows are = absurd are
  first_learned place c [] after made side shows are = absurd are.0
  first_learned place c (t ∷ before) after made side shows are = absurd are.0

  module _ (ps : List Pick) (told : List Told) (r : ReportView) (t : TellsRun nodes s ps told) (h : IsReplay s ps r) where
    abbrev lawful : IsLawfulReport s (λ f. true) r
    lawful = (replay_is_stamped_report s ps r h).stamped.lawful

    -- event i of fiber f learns of such an end, which is told
    abbrev IsTold : List FormPlace → ℕ → ℕ → ℕ → ℕ → Type 0
    IsTold places fibers queues f i =
        (g : ℕ) × (j : ℕ) × LearnsOfEnd (trace_in r) lawful.runs.labels f i g j × Tells (stood_events places fibers queues told) f i g j

    at_step : (places : List FormPlace) (fibers queues side : ℕ) → total s ≤ fibers → (before after : List Told) (made : MadeStep)
        → told ≡ before ++ Step made ∷ after → made.event ≡ Some (event.First side)
        → IsTold places fibers queues made.fiber (length (events_told made.fiber before))
    at_step places fibers queues side enough before after made is shows =
        let (g, learned) = first_learned 1 t.chosen before after made side shows
        (subst (λ (ts : List Told). AreTold nodes s (happenings 1 t.chosen) ts) is t.tells) in
        let end = told_learns nodes s ps told r t h before after made g is learned in
        let many = counted_told (total s) fibers queues g enough before (first_told_below nodes s ps told before (Step made ∷ after) t is) in
        let last = last_is (shown_by_all (nothing_shown fibers queues) before).shown g end.place (many ∙ end.last) in
        let cause : cause_when (shown_by_all (nothing_shown fibers queues) before) made.learned (event.First side)
        ≡ Some (record { fiber = g; place = end.place }) =
        ap (λ (l : Option ℕ). option_and_then (last_of (shown_by_all (nothing_shown fibers queues) before).shown) l) learned ∙ last in
        let tells : Tells (stood_events places fibers queues told) made.fiber (length (events_told made.fiber before)) g end.place = subst
        (λ (ts : List Told). Tells (stood_events places fibers queues ts) made.fiber (length (events_told made.fiber before)) g end.place) (sym is)
        (told_then places made (event.First side) shows after (replicate fibers None) (nothing_shown fibers queues) before ∙ cause) in
        (g, end.place, end.learns, tells)

    pub firsts_told : (places : List FormPlace) (fibers queues f i side : ℕ) → total s ≤ fibers → slice_get (trace_in r f) i ≡ Some (event.First side)
        → IsTold places fibers queues f i
    firsts_told places fibers queues f i side enough at =
        let found = shown_by_step f told i (event.First side)
        (subst (λ (es : List Event). slice_get es i ≡ Some (event.First side)) (sym (told_is_its_trace nodes s ps told r t h f)) at) in
        let so = at_step places fibers queues side enough found.before found.after found.made found.is found.shows in
        let same : length (events_told found.made.fiber found.before) ≡ i =
        ap (λ (k : ℕ). length (events_told k found.before)) found.fiber ∙ found.place in
        subst (λ (h : ℕ). IsTold places fibers queues h i) found.fiber (subst (λ (k : ℕ). IsTold places fibers queues found.made.fiber k) same so)

    -- so it stands on it
    pub firsts_stand : (places : List FormPlace) (fibers queues f i side : ℕ) → total s ≤ fibers → slice_get (trace_in r f) i ≡ Some (event.First side)
        → (g : ℕ) × (j : ℕ) × Needs (trace_in r) lawful.runs.labels (LeavesQueue s (λ f. true) r lawful) f i g j
        × Tells (stood_events places fibers queues told) f i g j
    firsts_stand places fibers queues f i side enough at =
        let so = firsts_told places fibers queues f i side enough at in (so.0, so.1, end_of_other so.2, so.3)
