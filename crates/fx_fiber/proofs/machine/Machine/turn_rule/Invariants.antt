use Rattle.fx_fiber.proofs.machine.Machine.turn_rule.Given as goal

abbrev pub ghost-loop_turns : goal.ghost-loop_turns
ghost-loop_turns g a = g.nodes

abbrev pub ghost-loop_ends : goal.ghost-loop_ends
ghost-loop_ends g a = g.nodes
