use Rattle.fx_run.specs.LawfulRun.{keeps_what_is_promised}
use Rattle.fx_run.proofs.whole_run.run.Goals as goal

pub returns-clause-promised : goal.returns-clause-promised
returns-clause-promised g c = keeps_what_is_promised c.in_ok-halt.ensures.halted.run

pub returns-clause-lawful : goal.returns-clause-lawful
returns-clause-lawful g c = c.in_ok-halt.ensures.halted.run
