use Rattle.fx_fiber.proofs.fiber.glide.glide.Given as goal

abbrev pub ghost-glide_at_node : goal.ghost-glide_at_node
ghost-glide_at_node g a = record g.outset { machine = a.machine.now }

abbrev pub ghost-look_ahead : goal.ghost-look_ahead
ghost-look_ahead g a = g.outset

abbrev pub ghost-glide_result : goal.ghost-glide_result
ghost-glide_result g a = g.outset

abbrev pub ghost-turn_rule : goal.ghost-turn_rule
ghost-turn_rule g a = g.P.Port.theory.code
