use Rattle.fx_fiber_tests.proofs.fiber.flows.flow_of.Given as goal

abbrev pub ghosts-flow : goal.ghosts-flow
ghosts-flow a = record { nodes = a.code.now.nodes }
