use Rattle.fx_fiber.proofs.fiber.flow.look_out.Given as goal

abbrev pub ghost-after_look : goal.ghost-after_look
ghost-after_look g a = g.outset
