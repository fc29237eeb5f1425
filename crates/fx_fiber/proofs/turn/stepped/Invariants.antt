use Rattle.std.proofs.Common.{◌≤◌, ◌-◌}
use Rattle.std.specs.Bool.{OnTrue}
use Rattle.fx_fiber.specs.QueueSteps.{StandsAtQueue, is_due}
use Rattle.fx_fiber.proofs.Turns.{Reached}
use Rattle.fx_fiber.proofs.turn.stepped.Given as goal

abbrev pub invariant-loop-steps : goal.invariant-loop-steps
invariant-loop-steps g l = record {
  reached : Reached g.P.Port.theory l.fn.fiber l.fn.shared l.steps l.is_registered l.fiber l.shared;
  most : l.steps ≤ 64;
  flows : OnTrue l.flows (StandsAtQueue g.P.Port.theory.code l.fiber.focus (is_due l.fiber));
}

abbrev pub decreases-loop-steps : goal.decreases-loop-steps
decreases-loop-steps g l = 64 - l.steps
