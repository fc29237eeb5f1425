use Rattle.fx_fiber.proofs.machine.Machine.turn_goes_on.Given as goal

abbrev pub ghost-turn_turns : goal.ghost-turn_turns
ghost-turn_turns g a = g.nodes

abbrev pub ghost-turn_value : goal.ghost-turn_value
ghost-turn_value g a = g.nodes

abbrev pub ghost-loop_ends : goal.ghost-loop_ends
ghost-loop_ends g a = g.nodes
