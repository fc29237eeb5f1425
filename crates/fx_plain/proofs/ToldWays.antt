-- Going on the way of the run that picks choose, where all is told.
use Rattle.std.proofs.Common.{◌≡◌, ℕ, ◌+◌, ◌<◌, false, Option, Some, None, List, [], ◌∷◌, ◌++◌, refl, sym, ◌∙◌, ap, subst, append-nil, append_assoc}
use Rattle.fx_term.specs.declared.node.Node.{Node}
use Rattle.fx_term.specs.Script.{ScriptView}
use Rattle.fx_text.specs.declared.pick.Pick.{Pick}
use Rattle.fx_plain.specs.declared.passed.Why.{Why}
use Rattle.fx_plain.specs.declared.told.MadeStep.{MadeStep}
use Rattle.fx_plain.specs.declared.told.Told.{Told}
use Rattle.fx_plain.specs.declared.told.Told.TheVariants.{Step}
use Rattle.fx_plain.specs.declared.plain_machine.PlainMachine.{PlainMachine}
use Rattle.fx_plain.specs.WholeMachine.{WholeMachine, Move, Steps, Requests, opening}
use Rattle.fx_plain.specs.Chosen.{ChosenStep, IsChosen}
use Rattle.fx_plain.specs.Chosen as chosen
use Rattle.fx_plain.specs.World.{is_ready_in}
use Rattle.fx_plain.specs.PlainMachine.{all_held, StandsForRun, StandsForSome, Halts}
use Rattle.fx_plain.specs.TakenPick.{Takes}
use Rattle.fx_plain.specs.TakenPick as takes
use Rattle.fx_plain.specs.ToldRun.{Happening, Moves, happenings, IsTold, AreTold, TellsRun}
use Rattle.fx_plain.specs.ToldWay.{happening, with_step, TriesAndTells, steps, waits, IsTakenAndTold, IsToldWay}
use Rattle.fx_plain.proofs.PlainMachineWork.{left_of, step_leaves_less, wait_leaves_less}
use Rattle.fx_plain.proofs.WorldClasses.{unready_cannot}

module _ (nodes : List Node) (s : ScriptView) where
  one_more_told : (xs : List Happening) (told : List Told) (x : Happening) (t : Told) → AreTold nodes s xs told → IsTold nodes s x t
      → AreTold nodes s (xs ++ x ∷ []) (told ++ t ∷ [])
  one_more_told [] [] x t are is = (is, tt)
  one_more_told (y ∷ ys) (u ∷ us) x t are is = (are.0, one_more_told ys us x t are.1 is)
  one_more_told [] (u ∷ us) x t are is = absurd are
  one_more_told (y ∷ ys) [] x t are is = absurd are

  -- a run from where a pick of this place leads is one from before it, in which what it makes comes first
  taken_first : (place : ℕ) (p : Pick) (ps : List Pick) {why : Option Why} {m m' last : WholeMachine} {vs : List Move} (t : Takes s m p why m')
      (c : IsChosen s ps m' vs last)
      → (ws : List Move) × (d : IsChosen s (p ∷ ps) m ws last) × (happenings place d ≡ happening place t ∷ happenings (place + 1) c)
  taken_first place _ ps {vs = vs} (takes.step {f = f} {l = l} made) c = (Steps f l ∷ vs, chosen.step made c, refl)
  taken_first place _ ps {vs = vs} (takes.no_step cannot why) c = (vs, chosen.no_step cannot c, refl)
  taken_first place _ ps {vs = vs} (takes.request {f = f} below) c = (Requests f ∷ vs, chosen.request below c, refl)
  taken_first place _ ps {vs = vs} (takes.no_request past) c = (vs, chosen.no_request past c, refl)

module _ {J : Type 0} (nodes : List Node) (s : ScriptView) (all : List Pick) where
  pub told_begins : (p : PlainMachine J) → StandsForRun nodes s p (opening s) → IsToldWay nodes s all 0 all [] p
  told_begins p so = record { machine = opening s; stands = so; so_far = []; on = λ vs last c. (vs, c, refl); tells = tt }

  -- by a pick
  pub told_on : (taken : ℕ) (k : Pick) (left : List Pick) (told : List Told) (t : Told) (p p' : PlainMachine J)
      → ((m : WholeMachine) → StandsForRun nodes s p m → IsTakenAndTold nodes s m (taken + 1) k t p') → IsToldWay nodes s all taken (k ∷ left) told p
      → IsToldWay nodes s all (taken + 1) left (told ++ t ∷ []) p'
  told_on taken k left told t p p' goes u =
      let g = goes u.machine u.stands in
      record {
        machine = g.machine;
        stands = g.stands;
        so_far = u.so_far ++ happening (taken + 1) g.takes ∷ [];
        on = λ vs last c.
            let first = taken_first nodes s (taken + 1) k left g.takes c in
            let before = u.on first.0 last first.1 in (
              before.0,
              before.1,
              before.2 ∙ ap (λ (xs : List Happening). u.so_far ++ xs) first.2
                  ∙ sym (append_assoc u.so_far (happening (taken + 1) g.takes ∷ []) (happenings (taken + 1 + 1) c)),
            );
        tells = one_more_told nodes s u.so_far told (happening (taken + 1) g.takes) t u.tells g.tells;
      }

  -- by a try of the least fiber, once all picks are taken
  module _ (taken f : ℕ) (told : List Told) (p p' : PlainMachine J) (least : (g : ℕ) → g < f → is_ready_in p.world g ≡ false) where
    pub told_step : (made : MadeStep) → ((m : WholeMachine) → StandsForRun nodes s p m → TriesAndTells nodes s m f p p' (Some made))
        → IsToldWay nodes s all taken [] told p → IsToldWay nodes s all taken [] (told ++ Step made ∷ []) p'
    told_step made tries u = by_try (tries u.machine u.stands)
      where
        by_try : TriesAndTells nodes s u.machine f p p' (Some made) → IsToldWay nodes s all taken [] (told ++ Step made ∷ []) p'
        by_try (steps {l = l} {m' = m'} chose so is) = record {
          machine = m';
          stands = so;
          so_far = u.so_far ++ Moves u.machine (Steps f l) ∷ [];
          on = λ vs last c.
              let before = u.on (Steps f l ∷ vs) last (chosen.least
              (λ g lt. unready_cannot s p.world (all_held nodes p) u.machine u.stands.stands u.stands.tells g (least g lt)) chose c) in (
                before.0,
                before.1,
                before.2 ∙ sym (append_assoc u.so_far (Moves u.machine (Steps f l) ∷ []) (happenings (taken + 1) c)),
              );
          tells = one_more_told nodes s u.so_far told (Moves u.machine (Steps f l)) (Step made) u.tells is;
        }

    pub told_wait : ((m : WholeMachine) → StandsForRun nodes s p m → TriesAndTells nodes s m f p p' None)
        → IsToldWay nodes s all taken [] told p → IsToldWay nodes s all taken [] told p'
    told_wait tries u = by_try (tries u.machine u.stands)
      where
        by_try : TriesAndTells nodes s u.machine f p p' None → IsToldWay nodes s all taken [] told p'
        by_try (waits cannot so fewer) = record { machine = u.machine; stands = so; so_far = u.so_far; on = u.on; tells = u.tells }

  pub told_some : (taken : ℕ) (left : List Pick) (told : List Told) (p : PlainMachine J) → IsToldWay nodes s all taken left told p → StandsForSome nodes p
  told_some taken left told p u = (s, u.machine, u.stands)

  -- where no fiber is ready any more, the run is told
  pub told_ends : (taken : ℕ) (told : List Told) (p : PlainMachine J) → IsToldWay nodes s all taken [] told p → Halts p → TellsRun nodes s all told
  told_ends taken told p u halts =
      let end = u.on [] u.machine (chosen.halts (λ f. unready_cannot s p.world (all_held nodes p) u.machine u.stands.stands u.stands.tells f (halts f))) in
      record {
        moves = end.0;
        last = u.machine;
        chosen = end.1;
        tells = subst (λ (xs : List Happening). AreTold nodes s xs told) (sym (end.2 ∙ append-nil u.so_far)) u.tells;
      }

-- a try leaves a machine that stands for some, and less to do
module _ {J : Type 0} (nodes : List Node) (f : ℕ) (p p' : PlainMachine J) where
  abbrev pub TellsSome : Option MadeStep → Type 0
  TellsSome told = (s : ScriptView) (m : WholeMachine) → StandsForRun nodes s p m → TriesAndTells nodes s m f p p' told

  pub some_told : (told : Option MadeStep) → StandsForSome nodes p → TellsSome told → StandsForSome nodes p'
  some_told told some tries = by_try told (tries some.0 some.1 some.2)
    where
      by_try : (told : Option MadeStep) → TriesAndTells nodes some.0 some.1 f p p' told → StandsForSome nodes p'
      by_try (Some made) (steps {m' = m'} chose so is) = (some.0, m', so)
      by_try None (waits cannot so fewer) = (some.0, some.1, so)

  pub told_leaves_less : (told : Option MadeStep) → StandsForSome nodes p → TellsSome told → left_of nodes p' < left_of nodes p
  told_leaves_less told some tries = by_try told (tries some.0 some.1 some.2)
    where
      by_try : (told : Option MadeStep) → TriesAndTells nodes some.0 some.1 f p p' told → left_of nodes p' < left_of nodes p
      by_try (Some made) (steps {l = l} {m' = m'} chose so is) = step_leaves_less nodes some.0 p p' some.1 f l m' some.2 chose so
      by_try None (waits cannot so fewer) = wait_leaves_less nodes some.0 p p' some.1 some.2 so fewer

-- the least fiber of a machine is tried, which is the same machine once that fiber was found
module _ {J : Type 0} (nodes : List Node) (f : ℕ) (p q p' : PlainMachine J) (same : q ≡ p) (made : Option MadeStep)
    (tries : TellsSome nodes f q p' made) where
  here : TellsSome nodes f p p' made
  here = subst (λ (r : PlainMachine J). TellsSome nodes f r p' made) same tries

  pub rest_smaller : StandsForSome nodes p → left_of nodes p' < left_of nodes p
  rest_smaller some = told_leaves_less nodes f p p' made some here

  pub rest_stands : StandsForSome nodes p → StandsForSome nodes p'
  rest_stands some = some_told nodes f p p' made some here

  pub rest_told : ((g : ℕ) → g < f → is_ready_in p.world g ≡ false) → (told told' : List Told) → told' ≡ with_step made told
      → (s : ScriptView) (all : List Pick) (taken : ℕ) → IsToldWay nodes s all taken [] told p → IsToldWay nodes s all taken [] told' p'
  rest_told least told told' is s all taken u = subst (λ (ts : List Told). IsToldWay nodes s all taken [] ts p') (sym is) (by_made made (here s))
    where
      by_made : (made : Option MadeStep) → ((m : WholeMachine) → StandsForRun nodes s p m → TriesAndTells nodes s m f p p' made)
          → IsToldWay nodes s all taken [] (with_step made told) p'
      by_made None tries = told_wait nodes s all taken f told p p' least tries u
      by_made (Some step) tries = told_step nodes s all taken f told p p' least step tries u
