use Rattle.fx_fiber.proofs.machine.Machine.if_rule.Given as goal

abbrev pub ghost-if_not_zero : goal.ghost-if_not_zero
ghost-if_not_zero g a = g.nodes

abbrev pub ghost-if_zero : goal.ghost-if_zero
ghost-if_zero g a = g.nodes
