use Rattle.fx_fiber.proofs.fiber.Fiber.waits_for.Given as goal

abbrev pub ghost-waits_for : goal.ghost-waits_for
ghost-waits_for g a = g.P.Port.theory.code
