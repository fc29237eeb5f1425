use Rattle.fx_fiber.proofs.bare.Bare.can_step.Given as goal

abbrev pub ghost-can_step : goal.ghost-can_step
ghost-can_step a = a.code.now.nodes
