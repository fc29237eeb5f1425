use Rattle.std.proofs.Common.{◌≡◌, Bool, [], sym, subst, rules}
use Rattle.std.specs.Bool.{OnFalse}
use Rattle.std.specs.List.{filter}
use Rattle.fx_fiber.specs.Fiber.{FiberView}
use Rattle.fx_run.specs.Sweep.{can_go_by, is_unable_by}
use Rattle.fx_run.proofs.Sweeps.{next_passes, none_passes}
use Rattle.fx_run.proofs.sweep.sweep_any.Goals as goal

pub loop-fiber-preserved : goal.loop-fiber-preserved
loop-fiber-preserved g c =
    let before = c.loop-fiber in
    let after = c.put.new.self in
    let put = c.in_ok-put.ensures in
    record {
      able = next_passes (can_go_by g.P.Port.theory c.args.closed.now) before.swept.able.items after.able.items c.in-Some.fiber
          c.next.new.self.rest.items before.fiber-iterator.rest.items c.args.fibers.items c.in-Some.ensures.steps.0 put.able before.invariant.able;
      unable = next_passes (is_unable_by g.P.Port.theory c.args.closed.now) before.swept.unable.items after.unable.items c.in-Some.fiber
          c.next.new.self.rest.items before.fiber-iterator.rest.items c.args.fibers.items c.in-Some.ensures.steps.0 put.unable before.invariant.unable;
    }

pub returns-then-not-can_one_step-clause-unable : goal.returns-then-not-can_one_step-clause-unable
returns-then-not-can_one_step-clause-unable g c =
    let test : FiberView g.row.P.Denot → Bool = can_go_by g.P.Port.theory c.args.closed.now in
    let same : c.deref.result.now ≡ c.args.fibers.items = search rules in
    let none = subst (λ b. OnFalse b (filter test c.deref.result.now ≡ [])) c.if-not-can_one_step.true c.can_one_step.ensures in
    sym (none_passes test c.args.fibers.items (subst (λ xs. filter test xs ≡ []) same none)).whole
