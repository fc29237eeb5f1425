use Rattle.fx_plain.proofs.MovePicks.{chosen_again, tells_nothing}
use Rattle.fx_plain.proofs.laws.runs.moves_choose_their_run.Goals as goal

pub returns-clause-run : goal.returns-clause-run
returns-clause-run c s ps moves last h = chosen_again s h

pub returns-clause-fit : goal.returns-clause-fit
returns-clause-fit c s ps moves last h = tells_nothing s h
