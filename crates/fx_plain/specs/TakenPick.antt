-- What a pick makes of the whole machine, and what is told once it was taken.
use Rattle.std.specs.Prelude.{◌≡◌, ℕ, ◌+◌, ◌<◌, ◌≤◌, nat_lt, false, if◌then◌else◌, Option, Some, None}
use Rattle.fx_term.specs.Script.{ScriptView, total}
use Rattle.fx_model.specs.Row.{Label}
use Rattle.fx_text.specs.declared.pick.Pick.{Pick}
use Rattle.fx_text.specs.declared.pick.Pick.TheVariants as pick
use Rattle.fx_plain.specs.declared.class.Class.{Class}
use Rattle.fx_plain.specs.declared.class.Class.TheVariants.{Unstarted, Able, Over}
use Rattle.fx_plain.specs.declared.class.Class.TheVariants as class
use Rattle.fx_plain.specs.declared.passed.Why.{Why}
use Rattle.fx_plain.specs.declared.passed.Why.TheVariants.{NoFiber, NotStarted, Ended, Waits}
use Rattle.fx_plain.specs.declared.passed.PassedOver.{PassedOver}
use Rattle.fx_plain.specs.WholeMachine.{WholeMachine, can_step_in, requested_from_outside}
use Rattle.fx_plain.specs.Chosen.{ChosenStep}
use Rattle.fx_plain.specs.PassedPicks.{IsWhy}

-- why a fiber of that class cannot step, where the script has so many; one that is able may
abbrev pub why_of : (fibers f : ℕ) → Class → Option Why
why_of fibers f Able = None
why_of fibers f (class.Waits source) = Some (Waits source)
why_of fibers f Over = Some Ended
why_of fibers f Unstarted = Some (if nat_lt f fibers then NotStarted else NoFiber)

-- what a pick makes of the whole machine: its step or its request; or it is passed over, for this reason
pub data Takes (s : ScriptView) (m : WholeMachine) : Pick → Option Why → WholeMachine → Type 0 where
  step : {f : ℕ} {l : Label} {m' : WholeMachine} → ChosenStep s m f l m' → Takes s m (pick.Step f) None m'
  no_step : {f : ℕ} {why : Why} → can_step_in s m f ≡ false → IsWhy s m f why → Takes s m (pick.Step f) (Some why) m
  request : {f : ℕ} → f < total s → Takes s m (pick.Cancel f) None (requested_from_outside f m)
  no_request : {f : ℕ} → total s ≤ f → Takes s m (pick.Cancel f) (Some NoFiber) m

-- what is told after one pick more
abbrev pub told_after : Option PassedOver → ℕ → Pick → Option Why → Option PassedOver
told_after told place p None = told
told_after None place p (Some why) = Some (record { count = 1; first = record { place = place; pick = p; why = why } })
told_after (Some told) place p (Some why) = Some (record { count = told.count + 1; first = told.first })
