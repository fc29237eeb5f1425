use Rattle.fx_fiber_tests.proofs.fiber.can_step.answers_after.Given as goal

abbrev pub ghosts-answers : goal.ghosts-answers
ghosts-answers a = record { nodes = a.code.now.nodes }
