use Rattle.fx_script_laws.proofs.ReportsApart.{never_is_blocked, canceled_is_not_blocked}
use Rattle.fx_script_laws.proofs.refused.reports_tell_never_from_canceled.Goals as goal

pub returns-clause-never : goal.returns-clause-never
returns-clause-never c = never_is_blocked

pub returns-clause-canceled : goal.returns-clause-canceled
returns-clause-canceled c = canceled_is_not_blocked
