-- Runs of the fibers of a report, with where each fiber stood as it showed its events.
use Rattle.std.specs.Prelude.{◌≡◌, ℕ, false, All, List, [], ◌∷◌, map}
use Rattle.std.specs.Global.{Vec}
use Rattle.fx_term.specs.declared.node.Node.{Node}
use Rattle.fx_term.specs.Lists.{Among}
use Rattle.fx_term.specs.Script.{ScriptView}
use Rattle.fx_model.specs.Origin.{Origin, main_origin}
use Rattle.fx_model.specs.Outside.{Outside, can_step}
use Rattle.fx_model.specs.LawfulReport.{HasRuns}
use Rattle.fx_model.specs.Report.{FiberReportView, ReportView, final_outside}
use Rattle.fx_model.specs.Row.{Counts, Label, Starts}
use Rattle.fx_model.specs.Run.{events}
use Rattle.fx_model.specs.Step.{Progress, has_ended}
use Rattle.fx_follow.specs.Trails.{IsRunTelling, LearnsFrom}
use Rattle.fx_follow.specs.declared.stand.Stand.{Stand}

-- the run of one fiber: its number, what it began with, its labels, and where they lead
pub record FiberRun : Type 0 where
  pub number : ℕ
  pub origin : Origin
  pub labels : List Label
  pub counts : Counts
  pub progress : Progress

-- Where the fibers see this outside themselves at the end: fiber x of the report has that run, and that is told of its events. The run shows its trace, ends
-- where the report says so, at its end the fiber cannot step, and it learns how fibers ended as the report tells
pub record IsFollowed (nodes : List Node) (o : Outside) (x : FiberReportView) (stands : List Stand) (run : FiberRun) : Type 0 where
  pub number : run.number ≡ x.id
  pub leads : IsRunTelling nodes run.origin run.labels stands run.counts run.progress
  pub trace : events run.labels ≡ x.trace
  pub state : has_ended run.progress ≡ x.has_ended
  pub unable : can_step o x.id run.counts run.progress ≡ false
  pub learnt : All (LearnsFrom o.outcome) run.labels

-- each fiber of the list with what is told of it and with its run, in their order
abbrev pub AreEach : List Node → Outside → List FiberReportView → List (List Stand) → List FiberRun → Type 0
AreEach nodes o [] [] [] = Unit {0}
AreEach nodes o (x ∷ xs) (stands ∷ rest) (run ∷ runs) = IsFollowed nodes o x stands run × AreEach nodes o xs rest runs
AreEach nodes o _ _ _ = ⊥

-- the run of fiber g is among these, and begins so
abbrev pub HasRunOf : List FiberRun → ℕ → Origin → Type 0
HasRunOf runs g b = (run : FiberRun) × Among run runs × (run.number ≡ g) × (run.origin ≡ b)

-- the fiber that a step starts has one of these runs, which begins as the start says
abbrev pub StartsRun : List FiberRun → Label → Type 0
StartsRun runs (Starts g b) = HasRunOf runs g b
StartsRun runs _ = Unit {0}

-- All fibers of the report have runs of which that is told, fiber by fiber: the main fiber began with the script's term, and each other one as a start of
-- these runs says
pub record AreFollowed (nodes : List Node) (s : ScriptView) (r : ReportView) (told : List (List Stand)) : Type 0 where
  pub runs : List FiberRun
  pub each : AreEach nodes (final_outside s r) r.fibers told runs
  pub main : HasRunOf runs 0 (main_origin s.term)
  pub starts : All (λ (run : FiberRun). All (StartsRun runs) run.labels) runs

-- what is told, as lists
abbrev pub stands_of : List (Vec Stand) → List (List Stand)
stands_of told = map (λ (stands : Vec Stand). stands.items) told

-- that is told of the events of these fibers, in their order, by runs that they have in a lawful report
abbrev pub AreToldOf : List Node → {s : ScriptView} {r : ReportView} → HasRuns s r → List FiberReportView → List (List Stand) → Type 0
AreToldOf nodes runs [] [] = Unit {0}
AreToldOf nodes runs (x ∷ xs) (stands ∷ rest) =
    IsRunTelling nodes (runs.origin x.id) (runs.labels x.id) stands (runs.counts x.id) (runs.progress x.id) × AreToldOf nodes runs xs rest
AreToldOf nodes runs _ _ = ⊥

-- of all fibers of the report
abbrev pub AreToldBy : List Node → (s : ScriptView) (r : ReportView) → HasRuns s r → List (List Stand) → Type 0
AreToldBy nodes s r runs told = AreToldOf nodes runs r.fibers told
