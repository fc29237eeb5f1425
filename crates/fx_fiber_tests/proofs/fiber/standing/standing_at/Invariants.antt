use Rattle.fx_fiber_tests.proofs.fiber.standing.standing_at.Given as goal

abbrev pub ghosts-standing_in : goal.ghosts-standing_in
ghosts-standing_in a = record { nodes = a.code.now.nodes }
