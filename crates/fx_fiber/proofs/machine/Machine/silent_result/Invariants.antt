use Rattle.fx_fiber.proofs.machine.Machine.silent_result.Given as goal

abbrev pub ghost-result_row : goal.ghost-result_row
ghost-result_row g a = g.nodes

abbrev pub ghost-turn_value : goal.ghost-turn_value
ghost-turn_value g a = g.nodes
