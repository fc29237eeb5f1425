use Rattle.fx_model.proofs.CausesFound.{causes_found}
use Rattle.fx_model.proofs.laws.reports.causes_are_found.Goals as goal

pub returns : goal.returns
returns c = causes_found
