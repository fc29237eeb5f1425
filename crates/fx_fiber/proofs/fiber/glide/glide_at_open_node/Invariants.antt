use Rattle.fx_fiber.proofs.fiber.glide.glide_at_open_node.Given as goal

abbrev pub ghost-enter : goal.ghost-enter
ghost-enter g a = g.P.Port.theory.code

abbrev pub ghost-look_ahead : goal.ghost-look_ahead
ghost-look_ahead g a = g.outset

abbrev pub ghost-node_row : goal.ghost-node_row
ghost-node_row g a = g.P.Port.theory.code
