use Rattle.fx_explore_tests.proofs.steps.first_step_of.Given as goal

abbrev pub ghosts-first_step : goal.ghosts-first_step
ghosts-first_step a = record { nodes = a.code.now.nodes }
