use Rattle.fx_plain.proofs.LawfulRuns.{settled_is_lawful}
use Rattle.fx_plain.proofs.laws.runs.settled_run_is_lawful.Goals as goal

pub returns : goal.returns
returns c = settled_is_lawful
