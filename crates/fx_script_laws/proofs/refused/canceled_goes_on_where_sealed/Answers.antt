use Rattle.fx_script_laws.proofs.ClosedApart.{canceled_of_sealed, never_of_sealed}
use Rattle.fx_script_laws.proofs.refused.canceled_goes_on_where_sealed.Goals as goal

pub returns-clause-bound : goal.returns-clause-bound
returns-clause-bound c there own = canceled_of_sealed own there

pub returns-clause-never : goal.returns-clause-never
returns-clause-never c there own = never_of_sealed own there
