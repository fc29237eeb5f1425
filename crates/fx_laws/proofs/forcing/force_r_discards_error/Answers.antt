use Rattle.fx_laws.proofs.ForcingLaws.{dropped_error_is_nothing}
use Rattle.fx_laws.proofs.CanceledBefore.{dropped_error_exactly}
use Rattle.fx_laws.proofs.forcing.force_r_discards_error.Goals as goal

pub returns-clause-same : goal.returns-clause-same
returns-clause-same c = dropped_error_is_nothing

pub returns-clause-exactly : goal.returns-clause-exactly
returns-clause-exactly c = dropped_error_exactly
