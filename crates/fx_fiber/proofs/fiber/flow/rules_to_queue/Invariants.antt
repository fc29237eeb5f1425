use Rattle.fx_fiber.specs.Bursts.{outset_at}
use Rattle.fx_fiber.proofs.fiber.flow.rules_to_queue.Given as goal

abbrev pub ghost-rules_from_closed : goal.ghost-rules_from_closed
ghost-rules_from_closed g a = outset_at a.port.now a.shared.now a.body.now

abbrev pub ghost-look_out : goal.ghost-look_out
ghost-look_out g a = outset_at a.port.now a.shared.now a.body.now
