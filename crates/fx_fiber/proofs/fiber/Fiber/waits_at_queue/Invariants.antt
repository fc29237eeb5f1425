use Rattle.fx_fiber.proofs.fiber.Fiber.waits_at_queue.Given as goal

abbrev pub ghost-waits_at_queue : goal.ghost-waits_at_queue
ghost-waits_at_queue g a = g.P.Port.theory.code
