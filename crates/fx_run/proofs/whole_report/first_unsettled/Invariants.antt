use Rattle.std.proofs.Common.{◌≡◌, drop}
use Rattle.std.specs.List.{find}
use Rattle.fx_run.specs.ClosedAs.{can_step_by}
use Rattle.fx_run.proofs.whole_report.first_unsettled.Given as goal

abbrev pub invariant-loop-k : goal.invariant-loop-k
invariant-loop-k l = find (can_step_by l.fn.closed) (drop l.k l.fn.bares) ≡ find (can_step_by l.fn.closed) l.fn.bares
