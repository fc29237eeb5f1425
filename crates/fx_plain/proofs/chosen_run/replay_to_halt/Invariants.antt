use Rattle.fx_plain.proofs.chosen_run.replay_to_halt.Given as goal

abbrev pub ghosts-replay_named : goal.ghosts-replay_named
ghosts-replay_named a = record { nodes = a.script.now.code.nodes }
