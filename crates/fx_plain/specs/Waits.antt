-- What the fibers wait for that are blocked at the end of the run that picks choose.
use Rattle.std.specs.Prelude.{◌≡◌, Option, Some, None, option_and_then, List, map, All}
use Rattle.fx_term.specs.Script.{ScriptView}
use Rattle.fx_model.specs.Step.{leaf_at}
use Rattle.fx_model.specs.Report.{ReportView}
use Rattle.fx_model.specs.Waiting.{wait_at}
use Rattle.fx_model.specs.declared.source.Source.{Source}
use Rattle.fx_text.specs.declared.pick.Pick.{Pick}
use Rattle.fx_report.specs.declared.wait.Wait.{Wait}
use Rattle.fx_report.specs.Waits.{blocked_in}
use Rattle.fx_plain.specs.WholeMachine.{StartedFiber, WholeMachine, Move, opening}
use Rattle.fx_plain.specs.SettledRun.{IsReportOf}
use Rattle.fx_plain.specs.Chosen.{IsChosen}

-- what the leaf of a fiber waits for, if that has started and its leaf is one that can wait
abbrev pub source_of_fiber : Option StartedFiber → Option Source
source_of_fiber None = None
source_of_fiber (Some x) = option_and_then wait_at (leaf_at x.progress)

-- those that the report has as blocked, in its order and no others, each with what its leaf waits for
pub record AreWaitsOf (m : WholeMachine) (r : ReportView) (waits : List Wait) : Type 0 where
  pub blocked : map (λ (w : Wait). w.fiber) waits ≡ blocked_in r
  pub sources : All (λ (w : Wait). source_of_fiber (m.fibers w.fiber) ≡ Some w.source) waits

-- the run that the picks choose has this report, and its blocked fibers wait for that
pub record IsReplayWithWaits (s : ScriptView) (ps : List Pick) (r : ReportView) (waits : List Wait) : Type 0 where
  pub moves : List Move
  pub last : WholeMachine
  pub chosen : IsChosen s ps (opening s) moves last
  pub report : IsReportOf s last r
  pub waiting : AreWaitsOf last r waits
