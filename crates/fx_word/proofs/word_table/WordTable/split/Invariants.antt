use Rattle.fx_word.proofs.word_table.WordTable.split.Given as goal

abbrev pub ghosts-split_as : goal.ghosts-split_as
ghosts-split_as a = record { begin = a.begin.now }
