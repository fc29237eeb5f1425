use Rattle.fx_plain.proofs.ChosenRuns.{chosen_leads}
use Rattle.fx_plain.proofs.laws.runs.chosen_run_is_a_run.Goals as goal

pub returns : goal.returns
returns c s ps moves last h = chosen_leads s h
