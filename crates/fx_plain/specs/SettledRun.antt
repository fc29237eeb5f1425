-- The runs of the whole machine at whose end no fiber can step, whoever chose their steps, and their reports.
use Rattle.std.specs.Prelude.{◌≡◌, ℕ, ◌==◌, Option, Some, None, List, length, map}
use Rattle.std.specs.List.{list_any}
use Rattle.std.specs.List.Sorted.{IsStrictlyIncreasing}
use Rattle.fx_term.specs.Script.{ScriptView}
use Rattle.fx_model.specs.Step.{has_ended}
use Rattle.fx_model.specs.Run.{events}
use Rattle.fx_model.specs.Report.{FiberReportView, ReportView, fiber_in, left_in}
use Rattle.fx_plain.specs.WholeMachine.{StartedFiber, WholeMachine, Move, IsSettled, IsWholeMachineRun}

-- what is reported of fiber f, whose trace has these stamps
abbrev pub report_of_fiber : ℕ → List ℕ → Option StartedFiber → Option FiberReportView
report_of_fiber f stamps None = None
report_of_fiber f stamps (Some x) =
    Some (record { id = f; parent = x.parent; has_ended = has_ended x.progress; trace = events x.labels; stamps = stamps })

-- the report of a whole machine: each fiber that has started, and no other, with its trace and its stamps; what is left; the requests from outside; and nobody
-- late
pub record IsReportOf (s : ScriptView) (m : WholeMachine) (r : ReportView) : Type 0 where
  pub ascending : IsStrictlyIncreasing (map (λ (x : FiberReportView). x.id) r.fibers)
  pub fibers : (f : ℕ) → fiber_in r f ≡ report_of_fiber f (m.stamps.trace f) (m.fibers f)
  pub left_by_queue : length r.left ≡ length s.capacities
  pub left : (q : ℕ) → left_in r q ≡ m.queues q
  pub outside_ascending : IsStrictlyIncreasing r.outside
  pub outside : (f : ℕ) → list_any (λ g. g == f) r.outside ≡ m.from_outside f
  pub in_time : r.late ≡ 0

-- some run of the whole machine, at whose end no fiber can step, has this report
pub record HasSettledRun (s : ScriptView) (r : ReportView) : Type 0 where
  pub moves : List Move
  pub last : WholeMachine
  pub run : IsWholeMachineRun s moves last
  pub settled : IsSettled s last
  pub report : IsReportOf s last r
