use Rattle.fx_fiber.proofs.machine.Machine.is_open_at_leaf.Given as goal

abbrev pub ghost-leaf_below : goal.ghost-leaf_below
ghost-leaf_below g a = g.nodes
