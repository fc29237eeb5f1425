use Rattle.fx_script_laws.proofs.EndsInScripts.{never_is_last, forced_never_is_last}
use Rattle.fx_script_laws.proofs.laws.never_dominates_in_scripts.Goals as goal

pub returns-clause-bound : goal.returns-clause-bound
returns-clause-bound c = never_is_last

pub returns-clause-forced : goal.returns-clause-forced
returns-clause-forced c = forced_never_is_last
