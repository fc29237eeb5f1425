use Rattle.fx_fiber.proofs.fiber.advance.advance.Given as goal

abbrev pub ghost-interrupted : goal.ghost-interrupted
ghost-interrupted g a = g.P.Port.theory.code

abbrev pub ghost-turn_rule : goal.ghost-turn_rule
ghost-turn_rule g a = g.P.Port.theory.code

abbrev pub ghost-unwinds : goal.ghost-unwinds
ghost-unwinds g a = g.P.Port.theory.code

abbrev pub ghost-enter : goal.ghost-enter
ghost-enter g a = g.P.Port.theory.code

abbrev pub ghost-result_rule : goal.ghost-result_rule
ghost-result_rule g a = g.P.Port.theory.code
