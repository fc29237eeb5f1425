use Rattle.fx_fiber.proofs.fiber.flow.loop_turn.Given as goal

abbrev pub ghost-glide_turn : goal.ghost-glide_turn
ghost-glide_turn g a = g.outset
