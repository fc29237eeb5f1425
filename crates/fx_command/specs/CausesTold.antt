-- What is told of a replay as the causes of its events is what these stand on.
use Rattle.std.specs.Prelude.{◌≡◌, ℕ, true, Some, List, slice_get}
use Rattle.fx_term.specs.declared.event.Event.TheVariants as event
use Rattle.fx_term.specs.Script.{ScriptView}
use Rattle.fx_model.specs.Report.{ReportView, trace_in}
use Rattle.fx_model.specs.ReportStamps.{IsStampedReport}
use Rattle.fx_picture.specs.declared.stood.Stood.{Stood}
use Rattle.fx_picture.specs.DrawsEach.{TellsEach}
use Rattle.fx_picture.specs.DrawsOnly.{TellsOnly}
use Rattle.fx_picture.specs.IsDrawn.{Tells}

-- By one choice of runs and histories that make the report lawful with its stamps: an event stands on each cause that is told of it; the put of what a get took
-- is told, and the end of which a first of two learnt; and there is one of each
pub record TellsCauses (s : ScriptView) (r : ReportView) (report : IsStampedReport s (λ f. true) r) (stood : List Stood) : Type 0 where
  pub only : TellsOnly s (λ f. true) r report.stamped.lawful stood
  pub each : TellsEach s (λ f. true) r report.stamped.lawful stood
  pub gets : (f i q v : ℕ) → slice_get (trace_in r f) i ≡ Some (event.Got q v) → (g : ℕ) × (j : ℕ) × Tells stood f i g j
  pub firsts : (f i side : ℕ) → slice_get (trace_in r f) i ≡ Some (event.First side) → (g : ℕ) × (j : ℕ) × Tells stood f i g j
