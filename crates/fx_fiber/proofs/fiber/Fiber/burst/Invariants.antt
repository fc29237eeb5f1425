use Rattle.fx_fiber.specs.Bursts.{outset_at}
use Rattle.fx_fiber.proofs.fiber.Fiber.burst.Given as goal

abbrev pub ghost-burst : goal.ghost-burst
ghost-burst g a = outset_at a.port.now a.shared.now a.body.now
