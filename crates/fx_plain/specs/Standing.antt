-- Where the blocked fibers of a run stand.
use Rattle.std.specs.Prelude.{ℕ, Option, Some, None, MatchOption, List, All, slice_index_or}
use Rattle.fx_term.specs.declared.node.Node.{Node}
use Rattle.fx_term.specs.declared.node.NodeId.{NodeId}
use Rattle.fx_term.specs.Script.{ScriptView}
use Rattle.fx_model.specs.Step.{leaf_at}
use Rattle.fx_model.specs.Report.{ReportView}
use Rattle.fx_fiber.specs.Fiber.{progress}
use Rattle.fx_fiber.specs.NodePlaces.{IsPlaceOf, HasNoNode}
use Rattle.fx_text.specs.declared.pick.Pick.{Pick}
use Rattle.fx_report.specs.declared.blocked.Blocked.{Blocked}
use Rattle.fx_report.specs.Waits.{waits_in}
use Rattle.fx_plain.specs.declared.plain_machine.PlainMachine.{PlainMachine}
use Rattle.fx_plain.specs.Started.{StartedView}
use Rattle.fx_plain.specs.WholeMachine.{WholeMachine}
use Rattle.fx_plain.specs.ToldRun.{leaf_of}
use Rattle.fx_plain.specs.Waits.{IsReplayWithWaits}

module _ {J : Type 0} (nodes : List Node) where
  -- at this node, if it stands at one; nothing is said of a fiber that has not started
  abbrev pub IsNodeAt : Option (StartedView J) → Option NodeId → Type 0
  IsNodeAt None id = Unit {0}
  IsNodeAt (Some x) id = MatchOption id (HasNoNode (leaf_at (progress nodes x.fiber))) (IsPlaceOf nodes x.fiber.registers (leaf_at (progress nodes x.fiber)))

  abbrev pub StandsIn : PlainMachine J → Blocked → Type 0
  StandsIn p b = IsNodeAt (slice_index_or p.fibers.items b.wait.fiber None) b.node

-- its fiber stands at that node in the whole machine, with some numbers for the names of the node; or its leaf is of no node
abbrev pub StandsAt : List Node → WholeMachine → Blocked → Type 0
StandsAt nodes m b =
    MatchOption b.node (HasNoNode (leaf_of (m.fibers b.wait.fiber))) (λ id. (numbers : List ℕ) × IsPlaceOf nodes numbers (leaf_of (m.fibers b.wait.fiber)) id)

-- the run that the picks choose has this report, and at its end the blocked fibers wait for that, and stand there
pub record IsReplayWithBlocked (nodes : List Node) (s : ScriptView) (ps : List Pick) (r : ReportView) (blocked : List Blocked) : Type 0 where
  pub replay : IsReplayWithWaits s ps r (waits_in blocked)
  pub stand : All (StandsAt nodes replay.last) blocked
