use Rattle.fx_fiber.proofs.fiber.start.start.Given as goal

abbrev pub ghost-child_of : goal.ghost-child_of
ghost-child_of g a = g.P.Port.theory.code
