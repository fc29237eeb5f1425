use Rattle.std.proofs.Common.{sym, ◌∙◌}
use Rattle.fx_fiber.specs.Fiber.{FiberView}
use Rattle.fx_sched.proofs.Ascending.{none, one_more}
use Rattle.fx_sched.proofs.lot.Lot.empty.Goals as goal

pub loop-bay-init : goal.loop-bay-init
loop-bay-init g c = rw c.in_ok-all.ensures.items (none (λ (f : FiberView g.row.P.Denot). (g.P.Port.theory.facts f.port).number) 0)

pub loop-bay-preserved : goal.loop-bay-preserved
loop-bay-preserved g c =
    rw c.in_ok-push.ensures.items
    (one_more (λ (f : FiberView g.row.P.Denot). (g.P.Port.theory.facts f.port).number) c.loop-bay.next c.from-id.result c.loop-bay.all.items
    c.in-Some-fiber.fiber c.if-id-next.false (sym c.id.ensures.is ∙ sym c.from-id.ensures) c.loop-bay.invariant)
