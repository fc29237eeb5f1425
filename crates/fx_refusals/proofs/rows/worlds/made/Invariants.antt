use Rattle.fx_refusals.proofs.rows.worlds.made.Given as goal

abbrev pub ghosts-made_as : goal.ghosts-made_as
ghosts-made_as g a = record { nodes = a.given.now.script.code.nodes }
