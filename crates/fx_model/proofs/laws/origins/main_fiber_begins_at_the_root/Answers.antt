use Rattle.fx_model.proofs.Beginnings.{main_begins}
use Rattle.fx_model.proofs.laws.origins.main_fiber_begins_at_the_root.Goals as goal

pub returns : goal.returns
returns c = main_begins
