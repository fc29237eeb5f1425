-- Picks choose one run.
use Rattle.std.proofs.Common.{◌≡◌, ℕ, zero, suc, ◌+◌, ◌<◌, ◌≤◌, Bool, true, false, Option, Some, None, option_map, List, [], length, refl, sym, ◌∙◌, ap}
use Rattle.std.proofs.Common.{arith, inl, inr}
use Rattle.std.specs.Prelude.{nat_lt}
use Rattle.std.proofs.lemmas.Bool.{cases_eq, lt-ltb, le-ltb}
use Rattle.std.proofs.lemmas.Option.{same_Some}
use Rattle.fx_term.specs.declared.node.Arg.TheVariants.{Number}
use Rattle.fx_term.specs.declared.event.Event.TheVariants as event
use Rattle.fx_term.specs.Term.{Term, First}
use Rattle.fx_model.specs.Row.{Label, Shows, Learns}
use Rattle.fx_model.specs.Step.{leaf_at}
use Rattle.fx_term.specs.Script.{ScriptView, total}
use Rattle.fx_text.specs.declared.pick.Pick.{Pick}
use Rattle.fx_plain.specs.WholeMachine.{StartedFiber, WholeMachine, Move, Steps, Requests, outside_of, front, can_step_fiber, can_step_in}
use Rattle.fx_plain.specs.WholeMachine.{IsAnswered, requested_from_outside}
use Rattle.fx_plain.specs.Chosen.{LooksLeftFirst, ChosenStep, IsChosen}
use Rattle.fx_plain.specs.Chosen as chosen
use Rattle.fx_model.proofs.NextSteps.{step_is_next}
use Rattle.fx_model.proofs.NextSteps as by_answers
use Rattle.fx_plain.proofs.ComputedRuns.{answers_of, MoveMade, went, stepped_fiber, step_of, least_able, RunTo, after, and_then, run_to_halt, replayed}
use Rattle.fx_plain.proofs.LawfulRuns.{IsKept, step_keeps, request_keeps}

module _ (s : ScriptView) (m : WholeMachine) (f : ℕ) where
  answered : (l : Label) → IsAnswered s m f l → by_answers.IsAnswered (answers_of s m f) l
  answered (Shows (event.Empty q)) a = ap front a
  answered (Learns g o e) a = a
  answered (Shows (event.Put q n)) a = a
  answered (Shows (event.Got q n)) a = a
  answered (Shows (event.Refused q)) a = a
  answered (Shows event.Seen) a = a
  answered _ a = tt

  left_first : (l : Label) (t : Option Term) → LooksLeftFirst m l t → by_answers.LooksLeftFirst (answers_of s m f) l t
  left_first (Learns g o (event.First (suc n))) (Some (First (Number h) k)) e = e
  left_first _ _ e = tt

  -- a step that a schedule makes is the computed one
  chosen_step_is : (l : Label) (m' : WholeMachine) → ChosenStep s m f l m' → step_of s m f ≡ Some (record { move = Steps f l; machine = m' })
  chosen_step_is l m' c =
      ap (stepped_fiber s m f) c.steps.started
      ∙ ap (option_map (went m f c.steps.fiber)) (step_is_next (answers_of s m f) c.steps.step (answered l c.steps.answered)
      (left_first l (leaf_at c.steps.fiber.progress) c.left_first) c.steps.seen_first)
      ∙ ap (λ (x : WholeMachine). Some (record { move = Steps f l; machine = x })) (sym c.steps.after)

-- a schedule makes one step of a fiber
pub one_step : (s : ScriptView) (m : WholeMachine) (f : ℕ) (l l' : Label) (m' m'' : WholeMachine) → ChosenStep s m f l m' → ChosenStep s m f l' m'' → m' ≡ m''
one_step s m f l l' m' m'' c c' =
    ap (λ (made : MoveMade). made.machine) (same_Some _ _ (sym (chosen_step_is s m f l m' c) ∙ chosen_step_is s m f l' m'' c'))

if_true : {A : Type 0} (b : Bool) (x y : A) → b ≡ true → elim b [ true ↦ x | false ↦ y ] ≡ x
if_true true x y e = refl
if_true false x y e = absurd cc

if_false : {A : Type 0} (b : Bool) (x y : A) → b ≡ false → elim b [ true ↦ x | false ↦ y ] ≡ y
if_false true x y e = absurd cc
if_false false x y e = refl

module _ (s : ScriptView) where
  none_is_least : (m : WholeMachine) (n f : ℕ) → ((h : ℕ) → can_step_in s m h ≡ false) → least_able s m n f ≡ None
  none_is_least m zero f none = refl
  none_is_least m (suc n) f none = if_false (can_step_in s m f) (Some f) (least_able s m n (f + 1)) (none f) ∙ none_is_least m n (f + 1) none

  least_is_least : (m : WholeMachine) (n f g : ℕ) → f ≤ g → g < f + n → can_step_in s m g ≡ true → ((h : ℕ) → h < g → can_step_in s m h ≡ false)
      → least_able s m n f ≡ Some g
  least_is_least m zero f g le lt can none = absurd (omega arith)
  least_is_least m (suc n) f g le lt can none = elim (cases_eq f g) [
    | inl same ↦ if_true (can_step_in s m f) (Some f) (least_able s m n (f + 1)) (ap (can_step_in s m) same ∙ can) ∙ ap Some same
    | inr ne ↦ if_false (can_step_in s m f) (Some f) (least_able s m n (f + 1)) (none f (omega arith))
        ∙ least_is_least m n (f + 1) g (omega arith) (omega arith) can none
  ]

  able_below : (m : WholeMachine) → IsKept s m → (f : ℕ) → can_step_in s m f ≡ true → f < total s
  able_below m k f can = by_fiber (m.fibers f) refl
    where
      by_fiber : (o : Option StartedFiber) → m.fibers f ≡ o → f < total s
      by_fiber None is = absurd (let e : can_step_in s m f ≡ false = ap (can_step_fiber (outside_of s m) f) is in cc)
      by_fiber (Some x) is = k.ranges.started_below f x is

  abbrev done : List Move → WholeMachine → RunTo
  done vs last = record { moves = vs; last = last }

  -- a chosen run is the computed one
  chosen_is_computed : {ps : List Pick} {m last : WholeMachine} {vs : List Move} → IsChosen s ps m vs last → IsKept s m → (n : ℕ) → length vs < n
      → replayed s n ps m ≡ Some (done vs last)
  chosen_is_computed (chosen.step {f = f} {l = l} {ps = ps} {m = m} {m' = m'} {last = last} {vs = vs} c rest) k n lt =
      if_true (can_step_in s m f) (and_then (step_of s m f) (replayed s n ps)) (replayed s n ps m) c.can
      ∙ ap (λ (o : Option MoveMade). and_then o (replayed s n ps)) (chosen_step_is s m f l m' c)
      ∙ ap (option_map (after (Steps f l))) (chosen_is_computed rest (step_keeps s m f l m' c.steps k) n (omega arith))
  chosen_is_computed (chosen.no_step {f = f} {ps = ps} {m = m} cannot rest) k n lt =
      if_false (can_step_in s m f) (and_then (step_of s m f) (replayed s n ps)) (replayed s n ps m) cannot ∙ chosen_is_computed rest k n lt
  chosen_is_computed (chosen.request {f = f} {ps = ps} {m = m} below rest) k n lt =
      if_true (nat_lt f (total s)) (option_map (after (Requests f)) (replayed s n ps (requested_from_outside f m))) (replayed s n ps m)
      (lt-ltb f (total s) below)
      ∙ ap (option_map (after (Requests f))) (chosen_is_computed rest (request_keeps s m f below k) n (omega arith))
  chosen_is_computed (chosen.no_request {f = f} {ps = ps} {m = m} above rest) k n lt =
      if_false (nat_lt f (total s)) (option_map (after (Requests f)) (replayed s n ps (requested_from_outside f m))) (replayed s n ps m)
      (le-ltb f (total s) above)
      ∙ chosen_is_computed rest k n lt
  chosen_is_computed (chosen.least none c rest) k zero lt = absurd (omega arith)
  chosen_is_computed (chosen.least {f = f} {l = l} {m = m} {m' = m'} none c rest) k (suc n) lt =
      ap (λ (o : Option ℕ). elim o [ None ↦ Some (done [] m) | Some g ↦ and_then (step_of s m g) (run_to_halt s n) ])
      (least_is_least m (total s) 0 f (omega arith) (let p = able_below m k f c.can in omega arith) c.can none)
      ∙ ap (λ (o : Option MoveMade). and_then o (run_to_halt s n)) (chosen_step_is s m f l m' c)
      ∙ ap (option_map (after (Steps f l))) (chosen_is_computed rest (step_keeps s m f l m' c.steps k) n (omega arith))
  chosen_is_computed (chosen.halts none) k zero lt = absurd (omega arith)
  chosen_is_computed (chosen.halts {m = m} none) k (suc n) lt =
      ap (λ (o : Option ℕ). elim o [ None ↦ Some (done [] m) | Some g ↦ and_then (step_of s m g) (run_to_halt s n) ]) (none_is_least m (total s) 0 none)

  -- two runs that the same picks choose are one
  pub one_run : {ps : List Pick} {m last last' : WholeMachine} {vs vs' : List Move} → IsKept s m → IsChosen s ps m vs last → IsChosen s ps m vs' last'
      → (vs ≡ vs') × (last ≡ last')
  one_run {last = last} {last' = last'} {vs = vs} {vs' = vs'} k c c' =
      let n = suc (length vs + length vs') in
      let e : done vs last ≡ done vs' last' = same_Some _ _ (sym (chosen_is_computed c k n (omega arith)) ∙ chosen_is_computed c' k n (omega arith)) in
      (ap (λ (d : RunTo). d.moves) e, ap (λ (d : RunTo). d.last) e)
