use Rattle.fx_fiber.proofs.machine.Machine.waits_for.Given as goal

abbrev pub ghost-leaf_below : goal.ghost-leaf_below
ghost-leaf_below g a = g.nodes

abbrev pub ghost-source_at : goal.ghost-source_at
ghost-source_at g a = g.nodes
