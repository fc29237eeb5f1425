use Rattle.fx_model.proofs.StampedReports.{has_its_causes}
use Rattle.fx_model.proofs.laws.stamps.stamped_causes_are_found.Goals as goal

pub returns : goal.returns
returns c = has_its_causes
