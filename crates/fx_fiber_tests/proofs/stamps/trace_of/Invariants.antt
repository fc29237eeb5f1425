use Rattle.fx_fiber_tests.proofs.stamps.trace_of.Given as goal

abbrev pub ghosts-traced : goal.ghosts-traced
ghosts-traced a = record { nodes = a.code.now.nodes }
