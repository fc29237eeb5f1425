use Rattle.fx_fiber.proofs.machine.Machine.waits_at_queue.Given as goal

abbrev pub ghost-waits_for : goal.ghost-waits_for
ghost-waits_for g a = g.nodes
