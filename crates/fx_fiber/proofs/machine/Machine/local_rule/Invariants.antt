use Rattle.fx_fiber.proofs.machine.Machine.local_rule.Given as goal

abbrev pub ghost-node_row : goal.ghost-node_row
ghost-node_row g a = g.nodes

abbrev pub ghost-self_request : goal.ghost-self_request
ghost-self_request g a = g.nodes

abbrev pub ghost-cede : goal.ghost-cede
ghost-cede g a = g.nodes
