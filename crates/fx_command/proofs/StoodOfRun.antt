-- What is told of an event of a run is what is told of that among all events.
use Rattle.std.proofs.Common.{◌≡◌, ℕ, zero, suc, ◌-◌, Bool, true, false, Option, Some, None, List, [], ◌∷◌, refl, ◌∙◌, ap, arith, map}
use Rattle.std.specs.Prelude.{◌==◌, if◌then◌else◌, option_map}
use Rattle.std.proofs.lemmas.Bool.{ne_eqb}
use Rattle.fx_places.specs.declared.place.FormPlace.{FormPlace}
use Rattle.fx_picture.specs.Stood.{stood_at, told_cause}
use Rattle.fx_run_events.specs.declared.ran_event.RanEvent.{RanEvent}
use Rattle.fx_run_events.specs.CausesTold.{cause_told}
use Rattle.fx_run_events.specs.RanEvents.{event_told}
use Rattle.fx_command.specs.StoodOfRun.{stood_by}

module _ (places : List FormPlace) (f : ℕ) where
  pub stood_as : (events : List RanEvent) (i : ℕ) → stood_at (map (stood_by places) events) f i ≡ option_map (stood_by places) (event_told events f i)
  stood_as [] i = refl
  stood_as (x ∷ events) zero = by_test (x.fiber == f) (stood_as events zero)
    where
      by_test : (b : Bool) → stood_at (map (stood_by places) events) f zero ≡ option_map (stood_by places) (event_told events f zero)
          → (if b then Some (stood_by places x) else stood_at (map (stood_by places) events) f zero)
          ≡ option_map (stood_by places) (if b then Some x else event_told events f zero)
      by_test true rest = refl
      by_test false rest = rest
  stood_as (x ∷ events) (suc i) =
      rw (ne_eqb (suc i) 0 (λ is. absurd (omega arith))) (by_test (x.fiber == f) (stood_as events (suc i - 1)) (stood_as events (suc i)))
    where
      by_test : (b : Bool) → stood_at (map (stood_by places) events) f (suc i - 1) ≡ option_map (stood_by places) (event_told events f (suc i - 1))
          → stood_at (map (stood_by places) events) f (suc i) ≡ option_map (stood_by places) (event_told events f (suc i))
          → (if b then stood_at (map (stood_by places) events) f (suc i - 1) else stood_at (map (stood_by places) events) f (suc i))
          ≡ option_map (stood_by places) (if b then event_told events f (suc i - 1) else event_told events f (suc i))
      by_test true earlier rest = earlier
      by_test false earlier rest = rest

  -- and so is its cause
  pub cause_as : (events : List RanEvent) (i : ℕ) → told_cause (stood_at (map (stood_by places) events) f i) ≡ cause_told (event_told events f i)
  cause_as events i = ap told_cause (stood_as events i) ∙ of_event (event_told events f i)
    where
      of_event : (o : Option RanEvent) → told_cause (option_map (stood_by places) o) ≡ cause_told o
      of_event None = refl
      of_event (Some x) = refl
