use Rattle.fx_laws.proofs.NeverLaws.{never_is_last}
use Rattle.fx_laws.proofs.never.never_dominates_over_flat_map.Goals as goal

pub returns : goal.returns
returns c = never_is_last
