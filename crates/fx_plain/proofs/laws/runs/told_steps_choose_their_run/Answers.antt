use Rattle.fx_plain.proofs.ToldRuns.{told_chooses}
use Rattle.fx_plain.proofs.laws.runs.told_steps_choose_their_run.Goals as goal

pub returns : goal.returns
returns c nodes s ps told r t h = told_chooses nodes s ps told r t h
