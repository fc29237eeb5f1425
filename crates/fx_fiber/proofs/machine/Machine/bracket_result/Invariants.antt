use Rattle.fx_fiber.proofs.machine.Machine.bracket_result.Given as goal

abbrev pub ghost-acquire_rule : goal.ghost-acquire_rule
ghost-acquire_rule g a = g.nodes

abbrev pub ghost-used : goal.ghost-used
ghost-used g a = g.nodes

abbrev pub ghost-released : goal.ghost-released
ghost-released g a = g.nodes

abbrev pub ghost-acquire_case_rule : goal.ghost-acquire_case_rule
ghost-acquire_case_rule g a = g.nodes

abbrev pub ghost-use_case_rule : goal.ghost-use_case_rule
ghost-use_case_rule g a = g.nodes
