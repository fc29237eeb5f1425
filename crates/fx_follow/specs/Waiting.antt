-- Fibers that are followed later.
use Rattle.std.specs.Prelude.{◌≡◌, ◌⊎◌, ℕ, All, List}
use Rattle.fx_term.specs.declared.node.Node.{Node}
use Rattle.fx_term.specs.Lists.{Among}
use Rattle.fx_term.specs.Script.{ScriptView}
use Rattle.fx_model.specs.Origin.{Origin, main_origin}
use Rattle.fx_model.specs.Report.{FiberReportView, ReportView, final_outside}
use Rattle.fx_model.specs.Row.{Label, Starts}
use Rattle.fx_fiber.specs.Fiber.{FiberView}
use Rattle.fx_fiber.specs.PortFacts.{Facts}
use Rattle.fx_follow.specs.Trails.{AreAtFirst, IsChild}
use Rattle.fx_follow.specs.Followed.{FiberRun, AreEach, HasRunOf}
use Rattle.fx_follow.specs.declared.stand.Stand.{Stand}

-- the fiber was taken out of the list, and each other one is still there
pub record IsTakenOut (f : FiberView Facts) (old new : List (FiberView Facts)) : Type 0 where
  pub was_there : Among f old
  pub stays : (g : FiberView Facts) → Among g old → (g ≡ f) ⊎ Among g new
  pub none_comes : (g : FiberView Facts) → Among g new → Among g old

-- fiber g, which begins so, has one of these runs, or is one of those that wait
abbrev pub HasRunOrWaits : List Node → List FiberRun → List (FiberView Facts) → ℕ → Origin → Type 0
HasRunOrWaits nodes runs waiting g b = HasRunOf runs g b ⊎ ((f : FiberView Facts) × Among f waiting × IsChild nodes g b f)

-- so has the fiber that a step starts
abbrev pub StartsRunOrWaiting : List Node → List FiberRun → List (FiberView Facts) → Label → Type 0
StartsRunOrWaiting nodes runs waiting (Starts g b) = HasRunOrWaits nodes runs waiting g b
StartsRunOrWaiting nodes runs waiting _ = Unit {0}

-- These fibers of the report have runs of which that is told; the main fiber and each one that these runs start has one of them, or waits, and those that wait
-- are before their first steps
pub record IsUnderWay (nodes : List Node) (s : ScriptView) (r : ReportView) (fibers : List FiberReportView) (told : List (List Stand))
    (waiting : List (FiberView Facts)) : Type 0 where
  pub runs : List FiberRun
  pub each : AreEach nodes (final_outside s r) fibers told runs
  pub main : HasRunOrWaits nodes runs waiting 0 (main_origin s.term)
  pub starts : All (λ (run : FiberRun). All (StartsRunOrWaiting nodes runs waiting) run.labels) runs
  pub begun : AreAtFirst nodes waiting
