use Rattle.fx_model.proofs.CountedStamps.{cancel_kept, race_kept}
use Rattle.fx_model.proofs.laws.stamps.counted_stamps_are_stamps.Goals as goal

pub returns-clause-cancel : goal.returns-clause-cancel
returns-clause-cancel c = cancel_kept

pub returns-clause-race : goal.returns-clause-race
returns-clause-race c = race_kept
