use Rattle.fx_plain.proofs.OneTelling.{one_telling}
use Rattle.fx_plain.proofs.laws.runs.what_is_told_of_passed_picks_is_one.Goals as goal

pub returns : goal.returns
returns c s ps told told' h h' = one_telling s ps told told' h h'
