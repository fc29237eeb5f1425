use Rattle.fx_fiber.proofs.machine.Machine.result_row.Given as goal

abbrev pub ghost-let_value : goal.ghost-let_value
ghost-let_value g a = g.nodes

abbrev pub ghost-let_error : goal.ghost-let_error
ghost-let_error g a = g.nodes

abbrev pub ghost-handle_value : goal.ghost-handle_value
ghost-handle_value g a = g.nodes

abbrev pub ghost-handle_error : goal.ghost-handle_error
ghost-handle_error g a = g.nodes

abbrev pub ghost-oncancel_ends : goal.ghost-oncancel_ends
ghost-oncancel_ends g a = g.nodes

abbrev pub ghost-masked_ends : goal.ghost-masked_ends
ghost-masked_ends g a = g.nodes

abbrev pub ghost-opened_ends : goal.ghost-opened_ends
ghost-opened_ends g a = g.nodes

abbrev pub ghost-turn_error : goal.ghost-turn_error
ghost-turn_error g a = g.nodes
