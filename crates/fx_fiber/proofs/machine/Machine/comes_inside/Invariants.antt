use Rattle.fx_fiber.proofs.machine.Machine.comes_inside.Given as goal

abbrev pub ghost-enter : goal.ghost-enter
ghost-enter g a = g.nodes
