use Rattle.fx_fiber.proofs.fiber.Fiber.new.Given as goal

abbrev pub ghost-beginning : goal.ghost-beginning
ghost-beginning g a = g.P.Port.theory.code
