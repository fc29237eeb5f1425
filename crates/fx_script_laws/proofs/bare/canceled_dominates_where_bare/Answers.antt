use Rattle.fx_script_laws.proofs.BareLaws.{canceled_before, canceled_forced}
use Rattle.fx_script_laws.proofs.bare.canceled_dominates_where_bare.Goals as goal

pub returns-clause-bound : goal.returns-clause-bound
returns-clause-bound c = canceled_before

pub returns-clause-forced : goal.returns-clause-forced
returns-clause-forced c = canceled_forced
