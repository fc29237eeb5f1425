use Rattle.fx_plain_tests.proofs.library.one_fiber_runs_in_a_world_of_its_own.Given as goal

abbrev pub ghosts-run_alone : goal.ghosts-run_alone
ghosts-run_alone a given = record { nodes = given.script.now.code.nodes }
