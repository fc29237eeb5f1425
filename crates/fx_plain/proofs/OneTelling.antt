-- What is told of the picks that a run passes over is one: the run is, and of one number in a machine to which it leads one reason is so.
use Rattle.std.proofs.Common.{◌≡◌, ℕ, ◌+◌, true, Option, Some, None, option_map, List, [], ◌∷◌, refl, sym, ◌∙◌, ap, subst, arith}
use Rattle.std.specs.Prelude.{nat_lt, if◌then◌else◌, is_some}
use Rattle.std.proofs.lemmas.Bool.{lt-ltb, le-ltb}
use Rattle.std.proofs.lemmas.Option.{none-some, same_Some}
use Rattle.fx_term.specs.Script.{ScriptView, total}
use Rattle.fx_model.specs.Step.{Progress, Runs, Unwinds, CleansUp, HasEnded}
use Rattle.fx_model.specs.Outside.{outcome_at}
use Rattle.fx_model.specs.declared.source.Source.{Source}
use Rattle.fx_model.proofs.BlockedFibers.{source_at}
use Rattle.fx_text.specs.declared.pick.Pick.{Pick}
use Rattle.fx_text.specs.declared.pick.Pick.TheVariants as pick
use Rattle.fx_plain.specs.declared.passed.Why.{Why}
use Rattle.fx_plain.specs.declared.passed.Why.TheVariants.{NoFiber, NotStarted, Ended, Waits}
use Rattle.fx_plain.specs.declared.passed.PassedOver.{PassedOver}
use Rattle.fx_plain.specs.WholeMachine.{StartedFiber, WholeMachine, Move, outcome_of_fiber}
use Rattle.fx_plain.specs.Chosen.{IsChosen}
use Rattle.fx_plain.specs.Chosen as chosen
use Rattle.fx_plain.specs.Waits.{source_of_fiber}
use Rattle.fx_plain.specs.PassedPicks.{Skipped, passed_over, number_of, IsWhy, IsToldOf, TellsPassed}
use Rattle.fx_plain.proofs.LawfulRuns.{IsKept, opening_is_kept, step_keeps, request_keeps}
use Rattle.fx_plain.proofs.OneRun.{one_step}

-- the reason by what a fiber is, of a script that has so many
abbrev reason_at : Progress → Option Why
reason_at (HasEnded o) = Some Ended
reason_at p = option_map Waits (source_at p)

abbrev reason_of : ℕ → ℕ → Option StartedFiber → Option Why
reason_of fibers f None = Some (if nat_lt f fibers then NotStarted else NoFiber)
reason_of fibers f (Some x) = reason_at x.progress

ended_reason : (p : Progress) → is_some (outcome_at p) ≡ true → reason_at p ≡ Some Ended
ended_reason (HasEnded o) e = refl
ended_reason (Runs t) e = absurd cc
ended_reason (Unwinds rest) e = absurd cc
ended_reason (CleansUp k t rest) e = absurd cc

waits_reason : (p : Progress) (source : Source) → source_at p ≡ Some source → reason_at p ≡ Some (Waits source)
waits_reason (HasEnded o) source e = absurd (none-some source e)
waits_reason (Runs t) source e = ap (option_map Waits) e
waits_reason (Unwinds rest) source e = ap (option_map Waits) e
waits_reason (CleansUp k t rest) source e = ap (option_map Waits) e

abbrev told_with : ℕ → ℕ → Pick → Why → PassedOver
told_with n i p w = record { count = n; first = record { place = i; pick = p; why = w } }

module _ (s : ScriptView) where
  module _ (m : WholeMachine) (k : IsKept s m) (f : ℕ) where
    reason : (why : Why) → IsWhy s m f why → reason_of (total s) f (m.fibers f) ≡ Some why
    reason NoFiber le = by_fiber (m.fibers f) refl
      where
        by_fiber : (z : Option StartedFiber) → m.fibers f ≡ z → reason_of (total s) f z ≡ Some NoFiber
        by_fiber None at = rw (le-ltb f (total s) le) refl
        by_fiber (Some x) at = absurd (let lt = k.ranges.started_below f x at in omega arith)
    reason NotStarted h = ap (reason_of (total s) f) h.1 ∙ rw (lt-ltb f (total s) h.0) refl
    reason Ended e = by_fiber (m.fibers f) e
      where
        by_fiber : (z : Option StartedFiber) → is_some (outcome_of_fiber z) ≡ true → reason_of (total s) f z ≡ Some Ended
        by_fiber None e = absurd cc
        by_fiber (Some x) e = ended_reason x.progress e
    reason (Waits source) e = by_fiber (m.fibers f) e
      where
        by_fiber : (z : Option StartedFiber) → source_of_fiber z ≡ Some source → reason_of (total s) f z ≡ Some (Waits source)
        by_fiber None e = absurd (none-some source e)
        by_fiber (Some x) e = waits_reason x.progress source e

    one_why : (why why' : Why) → IsWhy s m f why → IsWhy s m f why' → why ≡ why'
    one_why why why' h h' = same_Some why why' (sym (reason why h) ∙ reason why' h')

  -- two runs that the same picks choose pass over the same
  same_skipped : {ps : List Pick} {m last last' : WholeMachine} {vs vs' : List Move} (place : ℕ) (c : IsChosen s ps m vs last) (c' : IsChosen s ps m vs' last')
      → passed_over place c ≡ passed_over place c'
  same_skipped place (chosen.step {f = f} {l = l} {ps = ps} {m = m} {m' = m'} made rest)
      (chosen.step {l = l'} {m' = m''} {last = last'} {vs = vs'} made' rest') =
      subst (λ (n : WholeMachine). (d : IsChosen s ps n vs' last') → passed_over (place + 1) rest ≡ passed_over (place + 1) d)
      (one_step s m f l l' m' m'' made made') (λ d. same_skipped (place + 1) rest d) rest'
  same_skipped place (chosen.step made rest) (chosen.no_step cannot rest') = absurd (let can = made.can in cc)
  same_skipped place (chosen.no_step cannot rest) (chosen.step made rest') = absurd (let can = made.can in cc)
  same_skipped place (chosen.no_step {f = f} {m = m} cannot rest) (chosen.no_step cannot' rest') =
      ap (λ (xs : List Skipped). record { place = place; pick = pick.Step f; machine = m } ∷ xs) (same_skipped (place + 1) rest rest')
  same_skipped place (chosen.request below rest) (chosen.request below' rest') = same_skipped (place + 1) rest rest'
  same_skipped place (chosen.request below rest) (chosen.no_request past rest') = absurd (omega arith)
  same_skipped place (chosen.no_request past rest) (chosen.request below rest') = absurd (omega arith)
  same_skipped place (chosen.no_request {f = f} {m = m} past rest) (chosen.no_request past' rest') =
      ap (λ (xs : List Skipped). record { place = place; pick = pick.Cancel f; machine = m } ∷ xs) (same_skipped (place + 1) rest rest')
  same_skipped place (chosen.least is made rest) (chosen.least is' made' rest') = refl
  same_skipped place (chosen.least is made rest) (chosen.halts none) = refl
  same_skipped place (chosen.halts none) (chosen.least is made rest) = refl
  same_skipped place (chosen.halts none) (chosen.halts none') = refl

  -- the machine of the first of these is one to which a run leads
  abbrev FirstIsKept : List Skipped → Type 0
  FirstIsKept [] = Unit {0}
  FirstIsKept (x ∷ xs) = IsKept s x.machine

  first_kept : {ps : List Pick} {m last : WholeMachine} {vs : List Move} (place : ℕ) (c : IsChosen s ps m vs last) → IsKept s m
      → FirstIsKept (passed_over place c)
  first_kept place (chosen.step {f = f} {l = l} {m = m} {m' = m'} made rest) k = first_kept (place + 1) rest (step_keeps s m f l m' made.steps k)
  first_kept place (chosen.no_step cannot rest) k = k
  first_kept place (chosen.request {f = f} {m = m} below rest) k = first_kept (place + 1) rest (request_keeps s m f below k)
  first_kept place (chosen.no_request past rest) k = k
  first_kept place (chosen.least is made rest) k = tt
  first_kept place (chosen.halts none) k = tt

  same_parts : {n n' i i' : ℕ} {p p' : Pick} {w w' : Why} → n ≡ n' → i ≡ i' → p ≡ p' → w ≡ w' → told_with n i p w ≡ told_with n' i' p' w'
  same_parts e f g h = rw (e, f, g, h) refl

  one_told : (xs : List Skipped) → FirstIsKept xs → (told told' : Option PassedOver) → IsToldOf s xs told → IsToldOf s xs told' → told ≡ told'
  one_told [] k None None h h' = refl
  one_told (x ∷ xs) k (Some t) (Some t') h h' =
      ap Some (same_parts (h.count_is ∙ sym h'.count_is) (h.place_is ∙ sym h'.place_is) (h.pick_is ∙ sym h'.pick_is)
      (one_why x.machine k (number_of x.pick) t.first.why t'.first.why h.why h'.why))
  one_told [] k (Some t) told' h h' = absurd h
  one_told [] k None (Some t) h h' = absurd h'
  one_told (x ∷ xs) k None told' h h' = absurd h
  one_told (x ∷ xs) k (Some t) None h h' = absurd h'

  pub one_telling : (ps : List Pick) (told told' : Option PassedOver) → TellsPassed s ps told → TellsPassed s ps told' → told ≡ told'
  one_telling ps told told' h h' =
      one_told (passed_over 1 h.chosen) (first_kept 1 h.chosen (opening_is_kept s)) told told' h.tells
      (subst (λ (xs : List Skipped). IsToldOf s xs told') (same_skipped 1 h'.chosen h.chosen) h'.tells)
