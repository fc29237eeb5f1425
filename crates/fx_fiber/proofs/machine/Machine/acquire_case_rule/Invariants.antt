use Rattle.fx_fiber.proofs.machine.Machine.acquire_case_rule.Given as goal

abbrev pub ghost-acquired_case : goal.ghost-acquired_case
ghost-acquired_case g a = g.nodes
