use Rattle.fx_plain.proofs.ToldRuns.{told_is_its_trace}
use Rattle.fx_plain.proofs.laws.runs.told_steps_of_a_fiber_are_its_trace.Goals as goal

pub returns : goal.returns
returns c nodes s ps told r t h f = told_is_its_trace nodes s ps told r t h f
