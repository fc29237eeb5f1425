use Rattle.fx_fiber_tests.proofs.alone.shown.Given as goal

abbrev pub ghosts-shows : goal.ghosts-shows
ghosts-shows a = record { nodes = a.code.now.nodes }
