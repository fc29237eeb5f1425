-- The run of the whole machine that a list of picks chooses, and its report.
use Rattle.std.specs.Prelude.{◌≡◌, ℕ, suc, ◌<◌, ◌≤◌, true, false, Option, Some, None, List, [], ◌∷◌}
use Rattle.fx_term.specs.declared.node.Arg.TheVariants.{Number}
use Rattle.fx_term.specs.declared.event.Event.TheVariants as event
use Rattle.fx_term.specs.Term.{Term, First}
use Rattle.fx_term.specs.Script.{ScriptView, total}
use Rattle.fx_model.specs.Row.{Label, Learns}
use Rattle.fx_model.specs.Step.{leaf_at}
use Rattle.fx_model.specs.Report.{ReportView}
use Rattle.fx_text.specs.declared.pick.Pick.{Pick}
use Rattle.fx_text.specs.declared.pick.Pick.TheVariants as pick
use Rattle.fx_plain.specs.WholeMachine.{WholeMachine, Move, Steps, Requests, opening, outcome_of, can_step_in, IsSettled, FiberSteps}
use Rattle.fx_plain.specs.WholeMachine.{requested_from_outside}
use Rattle.fx_plain.specs.SettledRun.{IsReportOf}

-- where both fibers of `first` have ended, the left one is the one that it learns of
abbrev pub LooksLeftFirst : WholeMachine → Label → Option Term → Type 0
LooksLeftFirst m (Learns g o (event.First (suc n))) (Some (First (Number h) k)) = outcome_of m h ≡ None
LooksLeftFirst m _ _ = Unit {0}

-- a step of fiber f that a schedule makes
pub record ChosenStep (s : ScriptView) (m : WholeMachine) (f : ℕ) (l : Label) (m' : WholeMachine) : Type 0 where
  pub can : can_step_in s m f ≡ true
  pub steps : FiberSteps s m f l m'
  pub left_first : LooksLeftFirst m l (leaf_at steps.fiber.progress)

-- no fiber with a number below this one can step
abbrev pub IsLeast : ScriptView → WholeMachine → ℕ → Type 0
IsLeast s m f = (g : ℕ) → g < f → can_step_in s m g ≡ false

-- so many steps, one after the other, each of the least fiber that can make one
pub data LeastSteps (s : ScriptView) (m : WholeMachine) : ℕ → WholeMachine → Type 0 where
  none : LeastSteps s m 0 m
  more : {n f : ℕ} {l : Label} {k m' : WholeMachine} → LeastSteps s m n k → IsLeast s k f → ChosenStep s k f l m' → LeastSteps s m (suc n) m'

-- The run that the picks choose. Each pick makes its step, or is skipped where the fiber cannot step, or where no fiber of the script has that number.
-- After the last pick the fiber with the least number that can step makes one step, again and again, until none can
pub data IsChosen (s : ScriptView) : List Pick → WholeMachine → List Move → WholeMachine → Type 0 where
  step : {f : ℕ} {l : Label} {ps : List Pick} {m m' last : WholeMachine} {vs : List Move}
      → ChosenStep s m f l m' → IsChosen s ps m' vs last → IsChosen s (pick.Step f ∷ ps) m (Steps f l ∷ vs) last
  no_step : {f : ℕ} {ps : List Pick} {m last : WholeMachine} {vs : List Move}
      → can_step_in s m f ≡ false → IsChosen s ps m vs last → IsChosen s (pick.Step f ∷ ps) m vs last
  request : {f : ℕ} {ps : List Pick} {m last : WholeMachine} {vs : List Move}
      → f < total s → IsChosen s ps (requested_from_outside f m) vs last → IsChosen s (pick.Cancel f ∷ ps) m (Requests f ∷ vs) last
  no_request : {f : ℕ} {ps : List Pick} {m last : WholeMachine} {vs : List Move}
      → total s ≤ f → IsChosen s ps m vs last → IsChosen s (pick.Cancel f ∷ ps) m vs last
  least : {f : ℕ} {l : Label} {m m' last : WholeMachine} {vs : List Move}
      → IsLeast s m f → ChosenStep s m f l m' → IsChosen s [] m' vs last → IsChosen s [] m (Steps f l ∷ vs) last
  halts : {m : WholeMachine} → IsSettled s m → IsChosen s [] m [] m

-- the run that the picks choose has this report
pub record IsReplay (s : ScriptView) (ps : List Pick) (r : ReportView) : Type 0 where
  pub moves : List Move
  pub last : WholeMachine
  pub chosen : IsChosen s ps (opening s) moves last
  pub report : IsReportOf s last r
