use Rattle.fx_plain.proofs.LawfulRuns.{settled_keeps_promises}
use Rattle.fx_plain.proofs.laws.runs.settled_run_keeps_what_is_promised.Goals as goal

pub returns : goal.returns
returns c s r core h = settled_keeps_promises s r core h
