use Rattle.fx_fiber.proofs.fiber.child.child_of.Given as goal

abbrev pub ghost-beginning : goal.ghost-beginning
ghost-beginning g a = g.nodes
