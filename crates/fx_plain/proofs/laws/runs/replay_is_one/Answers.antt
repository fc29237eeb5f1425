use Rattle.fx_plain.proofs.OneReport.{one_replay}
use Rattle.fx_plain.proofs.laws.runs.replay_is_one.Goals as goal

pub returns : goal.returns
returns c s ps r r' h h' = one_replay s ps r r' h h'
