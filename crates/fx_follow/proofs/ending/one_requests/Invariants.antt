use Rattle.std.proofs.Common.{◌≡◌}
use Rattle.std.specs.Prelude.{drop}
use Rattle.std.specs.List.{list_any}
use Rattle.fx_model.specs.Report.{FiberReportView, is_request_for}
use Rattle.fx_follow.proofs.ending.one_requests.Given as goal

-- none that is passed does
abbrev pub invariant-loop-reported : goal.invariant-loop-reported
invariant-loop-reported l =
    list_any (λ (x : FiberReportView). list_any (is_request_for l.fiber) x.trace) (drop l.reported-index l.fibers)
    ≡ list_any (λ (x : FiberReportView). list_any (is_request_for l.fiber) x.trace) l.fn.fibers
