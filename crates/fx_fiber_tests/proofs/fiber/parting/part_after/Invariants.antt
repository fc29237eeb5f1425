use Rattle.fx_fiber_tests.proofs.fiber.parting.part_after.Given as goal

abbrev pub ghosts-part : goal.ghosts-part
ghosts-part a = record { nodes = a.code.now.nodes }
