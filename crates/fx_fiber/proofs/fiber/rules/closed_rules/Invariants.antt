use Rattle.fx_fiber.proofs.fiber.rules.closed_rules.Given as goal

abbrev pub ghost-rules : goal.ghost-rules
ghost-rules g a = g.outset
