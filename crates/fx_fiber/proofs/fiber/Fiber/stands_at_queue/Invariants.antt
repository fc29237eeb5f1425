use Rattle.fx_fiber.proofs.fiber.Fiber.stands_at_queue.Given as goal

abbrev pub ghost-stands_at_queue : goal.ghost-stands_at_queue
ghost-stands_at_queue g a = g.P.Port.theory.code
