use Rattle.fx_run.proofs.Gathering.{seat_first, seat_one_more}
use Rattle.fx_run.proofs.WholeEntries.{seat_is_whole}
use Rattle.fx_run.proofs.laws.gathering.gathered_words_can_be_closed.Goals as goal

pub returns-clause-first : goal.returns-clause-first
returns-clause-first c = seat_first

pub returns-clause-one_more : goal.returns-clause-one_more
returns-clause-one_more c = seat_one_more

pub returns-clause-whole : goal.returns-clause-whole
returns-clause-whole c = λ ps v lost ascending h main. seat_is_whole ps lost ascending v h main
