use Rattle.fx_findings.proofs.FoundReplays.{tells_replay}
use Rattle.fx_findings.proofs.laws.finding_is_replayed.Goals as goal

pub returns : goal.returns
returns c = tells_replay
