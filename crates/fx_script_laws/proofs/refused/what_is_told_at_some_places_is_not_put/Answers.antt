use Rattle.fx_script_laws.proofs.KeptApart.{canceled_goes_on, mask_and_finalizer}
use Rattle.fx_script_laws.proofs.refused.what_is_told_at_some_places_is_not_put.Goals as goal

pub returns-clause-canceled : goal.returns-clause-canceled
returns-clause-canceled c = canceled_goes_on

pub returns-clause-boundary : goal.returns-clause-boundary
returns-clause-boundary c = mask_and_finalizer
