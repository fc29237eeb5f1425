-- Of whose end a step that is told has learned.
use Rattle.std.specs.Prelude.{◌≡◌, ℕ, suc, List, length}
use Rattle.fx_term.specs.declared.event.Event.{Event}
use Rattle.fx_model.specs.Row.{Label}
use Rattle.fx_model.specs.Causes.{LearnsOfEnd}
use Rattle.fx_plain.specs.declared.told.MadeStep.{MadeStep}
use Rattle.fx_plain.specs.declared.told.Told.{Told}
use Rattle.fx_plain.specs.ToldRun.{events_told}

-- The step shows that its fiber learned of the end of fiber g, by the labels of a run in which fibers have these traces. It is told after those, and the end is
-- the last event of g that they tell
pub record LearnsLastEnd (trace : ℕ → List Event) (labels : ℕ → List Label) (before : List Told) (made : MadeStep) (g : ℕ) : Type 0 where
  pub place : ℕ
  pub last : length (events_told g before) ≡ suc place
  pub learns : LearnsOfEnd trace labels made.fiber (length (events_told made.fiber before)) g place
