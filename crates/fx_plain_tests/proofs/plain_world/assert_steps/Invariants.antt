use Rattle.fx_plain_tests.proofs.plain_world.assert_steps.Given as goal

abbrev pub ghosts-assert_steps_as : goal.ghosts-assert_steps_as
ghosts-assert_steps_as g a = record { nodes = a.script.now.code.nodes }
