use Rattle.fx_fiber.proofs.fiber.glide.bracket_rule.Given as goal

abbrev pub ghost-look_ahead : goal.ghost-look_ahead
ghost-look_ahead g a = g.outset

abbrev pub ghost-bracket_result : goal.ghost-bracket_result
ghost-bracket_result g a = g.P.Port.theory.code
