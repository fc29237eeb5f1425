use Rattle.fx_fiber.proofs.fiber.glide.glide_turn.Given as goal

abbrev pub ghost-turn_goes_on : goal.ghost-turn_goes_on
ghost-turn_goes_on g a = g.P.Port.theory.code
