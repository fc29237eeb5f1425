use Rattle.fx_fiber_tests.proofs.fiber.run.Given as goal

abbrev pub ghosts-drive : goal.ghosts-drive
ghosts-drive a = record { nodes = a.code.now.nodes }
