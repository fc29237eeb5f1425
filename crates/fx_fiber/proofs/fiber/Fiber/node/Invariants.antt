use Rattle.fx_fiber.proofs.fiber.Fiber.node.Given as goal

abbrev pub ghost-node : goal.ghost-node
ghost-node g a = g.P.Port.theory.code
