use Rattle.fx_fiber.proofs.fiber.Fiber.can_step.Given as goal

abbrev pub ghost-can_step : goal.ghost-can_step
ghost-can_step g a = g.P.Port.theory.code
