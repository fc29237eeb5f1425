use Rattle.std.proofs.Common.{◌≡◌, drop}
use Rattle.std.specs.List.{filter}
use Rattle.fx_run.specs.Sweep.{can_go_by}
use Rattle.fx_run.proofs.sweep.can_one_step.Given as goal

abbrev pub invariant-loop-k : goal.invariant-loop-k
invariant-loop-k g l = filter (can_go_by g.P.Port.theory l.fn.closed) (drop l.k l.fn.fibers) ≡ filter (can_go_by g.P.Port.theory l.fn.closed) l.fn.fibers
