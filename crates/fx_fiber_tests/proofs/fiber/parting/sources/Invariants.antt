use Rattle.fx_fiber_tests.proofs.fiber.parting.sources.Given as goal

abbrev pub ghosts-registers : goal.ghosts-registers
ghosts-registers a = record { nodes = a.code.now.nodes }
