use Rattle.fx_fiber_tests.proofs.fiber.can_step.goes_on_at.Given as goal

abbrev pub ghosts-goes_on : goal.ghosts-goes_on
ghosts-goes_on a = record { nodes = a.code.now.nodes }
