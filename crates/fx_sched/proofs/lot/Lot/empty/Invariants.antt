use Rattle.fx_fiber.specs.Fiber.{FiberView}
use Rattle.fx_sched.proofs.Ascending.{Ascend}
use Rattle.fx_sched.proofs.lot.Lot.empty.Given as goal

abbrev pub invariant-loop-bay : goal.invariant-loop-bay
invariant-loop-bay g l = Ascend (λ (f : FiberView g.row.P.Denot). (g.P.Port.theory.facts f.port).number) l.next l.all.items
