use Rattle.fx_fiber.proofs.bare.Bare.node.Given as goal

abbrev pub ghost-node : goal.ghost-node
ghost-node a = a.code.now.nodes
