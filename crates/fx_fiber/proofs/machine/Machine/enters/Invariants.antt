use Rattle.fx_fiber.proofs.machine.Machine.enters.Given as goal

abbrev pub ghost-enter_frame : goal.ghost-enter_frame
ghost-enter_frame g a = g.nodes
