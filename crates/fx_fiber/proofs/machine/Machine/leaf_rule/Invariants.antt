use Rattle.fx_fiber.proofs.machine.Machine.leaf_rule.Given as goal

abbrev pub ghost-local_rule : goal.ghost-local_rule
ghost-local_rule g a = g.P.Port.theory.code
