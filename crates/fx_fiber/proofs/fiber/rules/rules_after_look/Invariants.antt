use Rattle.fx_fiber.proofs.fiber.rules.rules_after_look.Given as goal

abbrev pub ghost-rules : goal.ghost-rules
ghost-rules g a = g.outset
