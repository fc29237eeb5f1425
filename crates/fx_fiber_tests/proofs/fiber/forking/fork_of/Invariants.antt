use Rattle.fx_fiber_tests.proofs.fiber.forking.fork_of.Given as goal

abbrev pub ghosts-fork : goal.ghosts-fork
ghosts-fork a = record { nodes = a.code.now.nodes }
