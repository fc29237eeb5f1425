use Rattle.fx_script_laws.proofs.ClosedApart.{finalizer_of_closed, mask_of_closed}
use Rattle.fx_script_laws.proofs.refused.what_a_poll_tells_is_not_put_where_closed.Goals as goal

pub returns-clause-finalizer : goal.returns-clause-finalizer
returns-clause-finalizer c = finalizer_of_closed

pub returns-clause-mask : goal.returns-clause-mask
returns-clause-mask c = mask_of_closed
