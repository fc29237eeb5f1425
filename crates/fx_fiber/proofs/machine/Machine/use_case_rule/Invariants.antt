use Rattle.fx_fiber.proofs.machine.Machine.use_case_rule.Given as goal

abbrev pub ghost-use_succeeded : goal.ghost-use_succeeded
ghost-use_succeeded g a = g.nodes

abbrev pub ghost-use_erred : goal.ghost-use_erred
ghost-use_erred g a = g.nodes
