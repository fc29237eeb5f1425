use Rattle.std.proofs.Common.{◌≡◌, ◌==◌}
use Rattle.std.specs.Prelude.{drop}
use Rattle.std.specs.List.{find}
use Rattle.fx_model.specs.Report.{FiberReportView}
use Rattle.fx_follow.proofs.ending.outcome_of.Given as goal

-- the fiber is not among those that are passed
abbrev pub invariant-loop-reported : goal.invariant-loop-reported
invariant-loop-reported l =
    find (λ (x : FiberReportView). x.id == l.fiber) (drop l.reported-index l.reported-items) ≡ find (λ (x : FiberReportView). x.id == l.fiber) l.report.fibers
