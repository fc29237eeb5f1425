use Rattle.fx_space_tests.proofs.searched.searched.Given as goal

abbrev pub ghosts-searched_named : goal.ghosts-searched_named
ghosts-searched_named a = record { nodes = a.script.now.code.nodes }
