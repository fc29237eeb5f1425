use Rattle.std.proofs.Common.{◌≡◌, ℕ, ◌+◌, ◌<◌}
use Rattle.std.specs.Vec.{vec_len, vec_capacity}
use Rattle.fx_fiber.specs.Fiber.{IsKept, fiber_at}
use Rattle.fx_fiber.specs.Places.{is_open_machine}
use Rattle.fx_fiber.specs.Bursts.{ComesAhead}
use Rattle.fx_fiber.specs.Flows.{Flows}
use Rattle.fx_fiber.specs.QueueSteps.{StandsAtQueue, is_due_in}
use Rattle.fx_fiber.specs.declared.fiber.ahead.Ahead.TheVariants.{Rule}
use Rattle.fx_fiber.proofs.fiber.flow.flow_on.Given as goal

-- so many steps were made that these are left, and nothing comes before the next rule
abbrev pub invariant-loop-left : goal.invariant-loop-left
invariant-loop-left g l = record {
  to : (n : ℕ) × (n + l.left ≡ l.fn.most) × Flows g.P.Port.theory
      (fiber_at l.fn.port l.fn.body.trace.items l.fn.body.machine l.fn.body.source) l.fn.shared n
      (fiber_at l.port l.body.trace.items l.body.machine l.body.source) l.shared;
  stands : StandsAtQueue g.P.Port.theory.code l.body.machine.focus (is_due_in l.body.machine);
  kept : IsKept g.P.Port.theory l.port l.body.trace.items l.body.clock l.body.machine;
  free : ComesAhead g.P.Port.theory.calls (is_open_machine l.body.machine) l.body.machine.known Rule l.port l.shared;
  room : 0 < l.left → vec_len l.body.trace < vec_capacity l.body.trace;
  id : l.body.id ≡ l.fn.body.id;
  source : l.body.source ≡ l.fn.body.source;
  number : (g.P.Port.theory.facts l.port).number ≡ (g.P.Port.theory.facts l.fn.port).number;
  beginning : (g.P.Port.theory.facts l.port).beginning ≡ (g.P.Port.theory.facts l.fn.port).beginning;
}

abbrev pub decreases-loop-left : goal.decreases-loop-left
decreases-loop-left g l = l.left

abbrev pub ghost-is_at_queue : goal.ghost-is_at_queue
ghost-is_at_queue g a = g.P.Port.theory.code
