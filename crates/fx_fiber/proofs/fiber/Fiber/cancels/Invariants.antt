use Rattle.fx_fiber.proofs.fiber.Fiber.cancels.Given as goal

abbrev pub ghost-cancels : goal.ghost-cancels
ghost-cancels g a = g.P.Port.theory.code
