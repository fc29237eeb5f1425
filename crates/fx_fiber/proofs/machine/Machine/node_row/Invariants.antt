use Rattle.fx_fiber.proofs.machine.Machine.node_row.Given as goal

abbrev pub ghost-enters : goal.ghost-enters
ghost-enters g a = g.nodes

abbrev pub ghost-pure : goal.ghost-pure
ghost-pure g a = g.nodes

abbrev pub ghost-raise : goal.ghost-raise
ghost-raise g a = g.nodes

abbrev pub ghost-if_rule : goal.ghost-if_rule
ghost-if_rule g a = g.nodes

abbrev pub ghost-for_begins : goal.ghost-for_begins
ghost-for_begins g a = g.nodes

abbrev pub ghost-mask : goal.ghost-mask
ghost-mask g a = g.nodes

abbrev pub ghost-poll : goal.ghost-poll
ghost-poll g a = g.nodes
