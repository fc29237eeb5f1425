use Rattle.fx_fiber.proofs.fiber.rules.rules_before_look.Given as goal

abbrev pub ghost-comes_inside : goal.ghost-comes_inside
ghost-comes_inside g a = g.P.Port.theory.code

abbrev pub ghost-look_ahead : goal.ghost-look_ahead
ghost-look_ahead g a = g.outset

abbrev pub ghost-closed_rules : goal.ghost-closed_rules
ghost-closed_rules g a = g.outset
