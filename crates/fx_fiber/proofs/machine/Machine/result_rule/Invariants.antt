use Rattle.fx_fiber.proofs.machine.Machine.result_rule.Given as goal

abbrev pub ghost-silent_result : goal.ghost-silent_result
ghost-silent_result g a = g.nodes

abbrev pub ghost-bracket_result : goal.ghost-bracket_result
ghost-bracket_result g a = g.nodes

abbrev pub ghost-acquire_fails : goal.ghost-acquire_fails
ghost-acquire_fails g a = g.nodes

abbrev pub ghost-end_rule : goal.ghost-end_rule
ghost-end_rule g a = g.nodes

abbrev pub ghost-acquire_case_fails : goal.ghost-acquire_case_fails
ghost-acquire_case_fails g a = g.nodes
