use Rattle.fx_fiber.proofs.fiber.flow.sees_request.Given as goal

abbrev pub ghost-seen : goal.ghost-seen
ghost-seen g a = g.P.Port.theory.code
