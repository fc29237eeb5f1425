use Rattle.fx_fiber.proofs.machine.Machine.can_step.Given as goal

abbrev pub ghost-leaf_below : goal.ghost-leaf_below
ghost-leaf_below g a = g.nodes

abbrev pub ghost-goes_on : goal.ghost-goes_on
ghost-goes_on g a = g.nodes
