use Rattle.fx_plain.proofs.told_run.tell_run.Given as goal

abbrev pub ghosts-told_named : goal.ghosts-told_named
ghosts-told_named a = record { nodes = a.script.now.code.nodes }
