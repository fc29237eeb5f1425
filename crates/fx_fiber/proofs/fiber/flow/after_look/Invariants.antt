use Rattle.fx_fiber.proofs.fiber.flow.after_look.Given as goal

abbrev pub ghost-loop_turn : goal.ghost-loop_turn
ghost-loop_turn g a = g.outset

abbrev pub ghost-rules_after_look : goal.ghost-rules_after_look
ghost-rules_after_look g a = g.outset

abbrev pub ghost-is_at_queue : goal.ghost-is_at_queue
ghost-is_at_queue g a = g.P.Port.theory.code
