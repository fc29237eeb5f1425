use Rattle.fx_run.proofs.whole_run.run_by.Given as goal

abbrev pub ghosts-run_over : goal.ghosts-run_over
ghosts-run_over g a = record { nodes = a.script.now.code.nodes; words = a.words.now; queues = a.queues.now; may = g.G.Gate.may a.gate.now }
