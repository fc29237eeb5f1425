use Rattle.fx_fiber.proofs.machine.Machine.end_rule.Given as goal

abbrev pub ghost-release_ends : goal.ghost-release_ends
ghost-release_ends g a = g.nodes

abbrev pub ghost-finalizer_ends : goal.ghost-finalizer_ends
ghost-finalizer_ends g a = g.nodes

abbrev pub ghost-succeeds : goal.ghost-succeeds
ghost-succeeds g a = g.nodes

abbrev pub ghost-errs : goal.ghost-errs
ghost-errs g a = g.nodes
