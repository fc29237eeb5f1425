use Rattle.fx_fiber.proofs.fiber.flow.rules_from_closed.Given as goal

abbrev pub ghost-closed_rules : goal.ghost-closed_rules
ghost-closed_rules g a = g.outset

abbrev pub ghost-look_out : goal.ghost-look_out
ghost-look_out g a = g.outset
