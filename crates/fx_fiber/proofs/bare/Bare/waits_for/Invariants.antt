use Rattle.fx_fiber.proofs.bare.Bare.waits_for.Given as goal

abbrev pub ghost-waits_for : goal.ghost-waits_for
ghost-waits_for a = a.code.now.nodes
