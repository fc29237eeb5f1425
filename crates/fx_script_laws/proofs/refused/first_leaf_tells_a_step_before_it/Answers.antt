use Rattle.fx_script_laws.proofs.FirstLeavesApart.{waits_in_a_finalizer, waits_in_an_acquire_part, cancels_itself}
use Rattle.fx_script_laws.proofs.refused.first_leaf_tells_a_step_before_it.Goals as goal

pub returns-clause-canceled : goal.returns-clause-canceled
returns-clause-canceled c = cancels_itself

pub returns-clause-finalizer : goal.returns-clause-finalizer
returns-clause-finalizer c = waits_in_a_finalizer

pub returns-clause-acquire : goal.returns-clause-acquire
returns-clause-acquire c = waits_in_an_acquire_part
