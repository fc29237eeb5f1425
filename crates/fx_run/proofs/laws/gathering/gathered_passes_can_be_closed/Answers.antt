use Rattle.fx_run.proofs.Gathering.{pass_first, pass_one_more}
use Rattle.fx_run.proofs.WholeEntries.{pass_is_whole}
use Rattle.fx_run.proofs.laws.gathering.gathered_passes_can_be_closed.Goals as goal

pub returns-clause-first : goal.returns-clause-first
returns-clause-first c = pass_first

pub returns-clause-one_more : goal.returns-clause-one_more
returns-clause-one_more c = pass_one_more

pub returns-clause-whole : goal.returns-clause-whole
returns-clause-whole c = λ q ps v lost ascending h main. pass_is_whole ps lost ascending q v h main
