use Rattle.std.proofs.Common.{◌≡◌, ◌++◌}
use Rattle.std.specs.List.{filter}
use Rattle.fx_run.specs.Sweep.{can_go_by, is_unable_by}
use Rattle.fx_run.proofs.sweep.sweep_any.Given as goal

abbrev pub invariant-loop-fiber : goal.invariant-loop-fiber
invariant-loop-fiber g l = record {
  able : l.swept.able.items ++ filter (can_go_by g.P.Port.theory l.fn.closed) l.fiber-iterator.rest.items
      ≡ filter (can_go_by g.P.Port.theory l.fn.closed) l.fn.fibers.items;
  unable : l.swept.unable.items ++ filter (is_unable_by g.P.Port.theory l.fn.closed) l.fiber-iterator.rest.items
      ≡ filter (is_unable_by g.P.Port.theory l.fn.closed) l.fn.fibers.items;
}
