use Rattle.fx_run_tests.proofs.given_fibers.answered.Given as goal

abbrev pub ghosts-reported : goal.ghosts-reported
ghosts-reported a = record { nodes = a.script.now.code.nodes }
