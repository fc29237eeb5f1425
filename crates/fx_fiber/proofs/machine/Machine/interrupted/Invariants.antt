use Rattle.fx_fiber.proofs.machine.Machine.interrupted.Given as goal

abbrev pub ghost-cancelled : goal.ghost-cancelled
ghost-cancelled g a = g.nodes

abbrev pub ghost-seen : goal.ghost-seen
ghost-seen g a = g.nodes
