use Rattle.fx_sched_tests.proofs.play.play.Given as goal

abbrev pub ghosts-play_as : goal.ghosts-play_as
ghosts-play_as g a = record { nodes = a.code.now.nodes }
