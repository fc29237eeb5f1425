use Rattle.fx_model.proofs.KeptStamps.{kept_after, kept_is_own}
use Rattle.fx_model.proofs.laws.stamps.steps_keep_the_stamps.Goals as goal

pub returns-clause-opening : goal.returns-clause-opening
returns-clause-opening c = λ began. tt

pub returns-clause-step : goal.returns-clause-step
returns-clause-step c = kept_after

pub returns-clause-told : goal.returns-clause-told
returns-clause-told c = kept_is_own
