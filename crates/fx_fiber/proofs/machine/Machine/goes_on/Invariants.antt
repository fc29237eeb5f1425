use Rattle.fx_fiber.proofs.machine.Machine.goes_on.Given as goal

abbrev pub ghost-source_at : goal.ghost-source_at
ghost-source_at g a = g.nodes
