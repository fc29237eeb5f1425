use Rattle.fx_fiber.proofs.machine.Machine.acquire_rule.Given as goal

abbrev pub ghost-acquired : goal.ghost-acquired
ghost-acquired g a = g.nodes
