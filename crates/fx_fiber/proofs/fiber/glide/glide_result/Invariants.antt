use Rattle.fx_fiber.proofs.fiber.glide.glide_result.Given as goal

abbrev pub ghost-result_row : goal.ghost-result_row
ghost-result_row g a = g.P.Port.theory.code

abbrev pub ghost-turn_value : goal.ghost-turn_value
ghost-turn_value g a = g.P.Port.theory.code

abbrev pub ghost-turn_goes_on : goal.ghost-turn_goes_on
ghost-turn_goes_on g a = g.P.Port.theory.code
