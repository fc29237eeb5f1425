use Rattle.fx_fiber.proofs.fiber.burst.burst.Given as goal

abbrev pub ghost-rules_after_look : goal.ghost-rules_after_look
ghost-rules_after_look g a = g.outset

abbrev pub ghost-rules_before_look : goal.ghost-rules_before_look
ghost-rules_before_look g a = g.outset

abbrev pub ghost-seen : goal.ghost-seen
ghost-seen g a = g.P.Port.theory.code
