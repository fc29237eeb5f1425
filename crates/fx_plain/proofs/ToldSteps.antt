-- What is told of a step, from how its fiber stands before and what its trace has after it.
use Rattle.std.proofs.Common.{◌≡◌, ℕ, true, false, Option, Some, None, option_map, List, [], ◌∷◌, ◌++◌, length, refl, sym, ◌∙◌, ap, subst}
use Rattle.std.specs.Prelude.{is_some, MatchOption, option_and_then, slice_get}
use Rattle.std.proofs.lemmas.Option.{none-some, same_Some}
use Rattle.fx_term.specs.declared.node.Node.{Node}
use Rattle.fx_term.specs.declared.event.Event.{Event}
use Rattle.fx_term.specs.Script.{ScriptView}
use Rattle.fx_term.specs.Term.{Term}
use Rattle.fx_model.specs.Row.{Label, Silent, Shows, Learns, Starts}
use Rattle.fx_model.specs.Run.{events}
use Rattle.fx_model.specs.Waiting.{wait_at}
use Rattle.fx_model.specs.declared.source.Source.{Source}
use Rattle.fx_model.specs.Step.{Progress, Runs, Unwinds, CleansUp, HasEnded, has_ended, leaf_at}
use Rattle.fx_model.proofs.Runs.{events_append}
use Rattle.fx_fiber.specs.Fiber.{progress}
use Rattle.fx_fiber.specs.NodePlaces.{is_open_at, IsPlaceOf, HasNoNode}
use Rattle.fx_fiber.proofs.NodePlaces.{with_some_numbers}
use Rattle.fx_text.specs.declared.pick.Pick.{Pick}
use Rattle.fx_text.specs.declared.pick.Pick.TheVariants as pick
use Rattle.fx_plain.specs.declared.passed.Why.{Why}
use Rattle.fx_plain.specs.declared.passed.Why.TheVariants as why
use Rattle.fx_plain.specs.declared.started.BeforeStep.{BeforeStep}
use Rattle.fx_plain.specs.declared.told.MadeStep.{MadeStep}
use Rattle.fx_plain.specs.declared.told.Told.TheVariants.{Step, Request, Passed}
use Rattle.fx_plain.specs.declared.plain_machine.PlainMachine.{PlainMachine}
use Rattle.fx_plain.specs.Started.{StartedView}
use Rattle.fx_plain.specs.WholeMachine.{StartedFiber, WholeMachine, stepped}
use Rattle.fx_plain.specs.Chosen.{ChosenStep}
use Rattle.fx_plain.specs.Classes.{awaited}
use Rattle.fx_plain.specs.ClassSets.{class_at}
use Rattle.fx_plain.specs.World.{HeldFiber, held_of}
use Rattle.fx_plain.specs.PlainMachine.{held, StandsForRun, Tries, steps, waits, IsTaken}
use Rattle.fx_plain.specs.TakenPick.{Takes}
use Rattle.fx_plain.specs.TakenPick as takes
use Rattle.fx_plain.specs.ToldRun.{shown_by, learned_by, is_open_of, leaf_of, TellsStep}
use Rattle.fx_plain.specs.ToldWay.{shown_at, learned_of, made_step, IsBeforeStep, IsBeforeStepAt, TriesAndTells, IsTakenAndTold}
use Rattle.fx_plain.specs.ToldWay as way
use Rattle.fx_plain.proofs.PlainMachineSteps.{at_number, held_at}
use Rattle.fx_plain.proofs.WholeMachineSteps.{still_itself}
use Rattle.fx_plain.proofs.LearnedSteps.{step_learns}

-- what comes after a list
after_all : {X : Type 0} (xs ys : List X) → slice_get (xs ++ ys) (length xs) ≡ slice_get ys 0
after_all [] ys = refl
after_all (x ∷ xs) ys = after_all xs ys

one_event : (l : Label) → slice_get (events (l ∷ [])) 0 ≡ shown_by l
one_event Silent = refl
one_event (Shows e) = refl
one_event (Learns f o e) = refl
one_event (Starts f b) = refl

-- a fiber that has ended stands at no place, and has no leaf
pub ended_opened : (p : Progress) → has_ended p ≡ true → false ≡ is_open_at p
ended_opened (HasEnded o) e = refl
ended_opened (Runs t) e = absurd cc
ended_opened (Unwinds rest) e = absurd cc
ended_opened (CleansUp k t rest) e = absurd cc

pub ended_has_none : (p : Progress) → has_ended p ≡ true → HasNoNode (leaf_at p)
ended_has_none (HasEnded o) e = tt
ended_has_none (Runs t) e = absurd cc
ended_has_none (Unwinds rest) e = absurd cc
ended_has_none (CleansUp k t rest) e = absurd cc

module _ {J : Type 0} (nodes : List Node) (s : ScriptView) where
  -- the fiber of a machine that a fiber of the whole machine is
  pub record IsHeld (p : PlainMachine J) (f : ℕ) (x : StartedFiber) : Type 0 where
    pub view : StartedView J
    pub at : at_number nodes p f ≡ Some view
    pub is : held nodes view ≡ held_of x

  held_by : (z : Option (StartedView J)) (x : StartedFiber) → option_map (held nodes) z ≡ Some (held_of x) → (p : PlainMachine J) (f : ℕ)
      → at_number nodes p f ≡ z → IsHeld p f x
  held_by None x e p f at = absurd (none-some (held_of x) e)
  held_by (Some v) x e p f at = record { view = v; at = at; is = same_Some (held nodes v) (held_of x) e }

  pub is_held : (p : PlainMachine J) (m : WholeMachine) (f : ℕ) (x : StartedFiber) → StandsForRun nodes s p m → m.fibers f ≡ Some x → IsHeld p f x
  is_held p m f x so at =
      held_by (at_number nodes p f) x (sym (held_at nodes p f) ∙ so.stands.fibers f ∙ ap (option_map held_of) at) p f refl

  module _ (p p' : PlainMachine J) (m : WholeMachine) (f : ℕ) (l : Label) (m' : WholeMachine) (so : StandsForRun nodes s p m)
      (made : ChosenStep s m f l m') (so' : StandsForRun nodes s p' m') where
    -- what is told of the step
    pub step_told : (before : BeforeStep) (told : MadeStep) → IsBeforeStepAt nodes (at_number nodes p f) before
        → told ≡ made_step f before (shown_at (at_number nodes p' f) before.shown)
        → TellsStep nodes m f l told
    step_told before told at is = by_parts (is_held p m f made.steps.fiber so made.steps.started)
        (is_held p' m' f (stepped made.steps.fiber l made.steps.counts made.steps.progress) so'
        (ap (λ (n : WholeMachine). n.fibers f) made.steps.after ∙ still_itself m f made.steps.fiber made.steps.counts made.steps.progress l))
      where
        by_parts : IsHeld p f made.steps.fiber → IsHeld p' f (stepped made.steps.fiber l made.steps.counts made.steps.progress) → TellsStep nodes m f l told
        by_parts v v' =
            let here : IsBeforeStep nodes v.view before = subst (λ (z : Option (StartedView J)). IsBeforeStepAt nodes z before) v.at at in
            let y = made.steps.fiber in
            let traces : v.view.fiber.trace ≡ events y.labels = ap (λ (h : HeldFiber). h.trace) v.is in
            let traces' : v'.view.fiber.trace ≡ events (y.labels ++ l ∷ []) = ap (λ (h : HeldFiber). h.trace) v'.is in
            let progress_is : progress nodes v.view.fiber ≡ y.progress = ap (λ (h : HeldFiber). h.progress) v.is in
            let shown : before.shown ≡ length (events y.labels) = here.shown ∙ ap length traces in
            let node : MatchOption before.node (HasNoNode (leaf_of (m.fibers f)))
            (λ id. (numbers : List ℕ) × IsPlaceOf nodes numbers (leaf_of (m.fibers f)) id) = subst
            (λ (leaf : Option Term). MatchOption before.node (HasNoNode leaf) (λ id. (numbers : List ℕ) × IsPlaceOf nodes numbers leaf id))
            (ap leaf_at progress_is ∙ sym (ap leaf_of made.steps.started))
            (with_some_numbers nodes v.view.fiber.registers (leaf_at (progress nodes v.view.fiber)) before.node here.node) in
            let is_open : before.is_open ≡ is_open_of (m.fibers f) = here.is_open ∙ ap is_open_at progress_is ∙ sym (ap is_open_of made.steps.started) in
            let event : shown_at (at_number nodes p' f) before.shown ≡ shown_by l =
            ap (λ (z : Option (StartedView J)). shown_at z before.shown) v'.at ∙ ap (λ (es : List Event). slice_get es before.shown) traces'
            ∙ ap (λ (es : List Event). slice_get es before.shown) (events_append y.labels (l ∷ []))
            ∙ ap (slice_get (events y.labels ++ events (l ∷ []))) shown ∙ after_all (events y.labels) (events (l ∷ [])) ∙ one_event l in
            let waits : before.waits ≡ option_and_then wait_at (leaf_at y.progress) =
            here.waits ∙ ap (λ (q : Progress). option_and_then wait_at (leaf_at q)) progress_is in
            let learned : learned_of before.waits (shown_at (at_number nodes p' f) before.shown) ≡ learned_by l =
            ap (λ (w : Option Source). learned_of w (shown_at (at_number nodes p' f) before.shown)) waits
            ∙ ap (learned_of (option_and_then wait_at (leaf_at y.progress))) event ∙ step_learns made.steps.step in
            rw is (record { fiber = refl; node = node; is_open = is_open; event = event; learned = learned })

noted : (o : Option Why) → is_some o ≡ true → o ≡ None → ⊥
noted None e is = cc
noted (Some w) e is = none-some w (sym is)

module _ {J : Type 0} (nodes : List Node) (s : ScriptView) (p p' : PlainMachine J) (m : WholeMachine) (f : ℕ) (so : StandsForRun nodes s p m) where
  -- a try after which it is noted that the fiber waits, and one after which it is not
  pub tried_and_waits : Tries nodes s m f p p' → is_some (option_map why.Waits (awaited (class_at p'.world.classes f))) ≡ true
      → TriesAndTells nodes s m f p p' None
  tried_and_waits (steps made so' none) e = absurd (noted _ e (ap (option_map why.Waits) none))
  tried_and_waits (waits cannot so' fewer is) e = way.waits cannot so' fewer

  pub tried_and_steps : (before : BeforeStep) (told : MadeStep) → IsBeforeStepAt nodes (at_number nodes p f) before
      → told ≡ made_step f before (shown_at (at_number nodes p' f) before.shown)
      → Tries nodes s m f p p' → is_some (option_map why.Waits (awaited (class_at p'.world.classes f))) ≡ false
      → TriesAndTells nodes s m f p p' (Some told)
  tried_and_steps before told at is (steps {l = l} {m' = m'} made so' none) e =
      way.steps made so' (step_told nodes s p p' m f l m' so made so' before told at is)
  tried_and_steps before told at is (waits {source = source} cannot so' fewer noted) e =
      absurd (let no : is_some (option_map why.Waits (Some source)) ≡ false = sym (ap (λ o. is_some (option_map why.Waits o)) noted) ∙ e in cc)

  -- a pick that makes a step
  pub taken_and_steps : (place : ℕ) (before : BeforeStep) (told : MadeStep) → IsBeforeStepAt nodes (at_number nodes p f) before
      → told ≡ made_step f before (shown_at (at_number nodes p' f) before.shown)
      → IsTaken nodes s m (pick.Step f) None p' → IsTakenAndTold nodes s m place (pick.Step f) (Step told) p'
  taken_and_steps place before told at is t = by_way t.takes t.stands
    where
      by_way : {m' : WholeMachine} → Takes s m (pick.Step f) None m' → StandsForRun nodes s p' m' → IsTakenAndTold nodes s m place (pick.Step f) (Step told) p'
      by_way (takes.step {l = l} {m' = m'} made) so' = record {
        machine = m';
        why = None;
        takes = takes.step made;
        stands = so';
        tells = step_told nodes s p p' m f l m' so made so' before told at is;
      }

-- a pick that makes a request, and one that is passed over
module _ {J : Type 0} (nodes : List Node) (s : ScriptView) (p' : PlainMachine J) (m : WholeMachine) (place : ℕ) where
  pub taken_request : (f : ℕ) → IsTaken nodes s m (pick.Cancel f) None p' → IsTakenAndTold nodes s m place (pick.Cancel f) (Request f) p'
  taken_request f t = by_way t.takes t.stands
    where
      by_way : {m' : WholeMachine} → Takes s m (pick.Cancel f) None m' → StandsForRun nodes s p' m'
          → IsTakenAndTold nodes s m place (pick.Cancel f) (Request f) p'
      by_way (takes.request below) so' = record { machine = _; why = None; takes = takes.request below; stands = so'; tells = refl }

  pub taken_passed : (k : Pick) (w : Why) → IsTaken nodes s m k (Some w) p'
      → IsTakenAndTold nodes s m place k (Passed (record { place = place; pick = k; why = w })) p'
  taken_passed k w t = by_way k w t.takes t.stands
    where
      by_way : (k : Pick) (w : Why) {m' : WholeMachine} → Takes s m k (Some w) m' → StandsForRun nodes s p' m'
          → IsTakenAndTold nodes s m place k (Passed (record { place = place; pick = k; why = w })) p'
      by_way _ _ (takes.no_step cannot so) so' = record {
        machine = m;
        why = _;
        takes = takes.no_step cannot so;
        stands = so';
        tells = record { place = refl; pick = refl; why = so };
      }
      by_way _ _ (takes.no_request past) so' = record {
        machine = m;
        why = _;
        takes = takes.no_request past;
        stands = so';
        tells = record { place = refl; pick = refl; why = past };
      }
