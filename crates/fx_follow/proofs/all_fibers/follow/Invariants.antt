use Rattle.fx_follow.proofs.all_fibers.follow.Given as goal

abbrev pub ghosts-follow_named : goal.ghosts-follow_named
ghosts-follow_named a = record { nodes = a.script.now.code.nodes }
