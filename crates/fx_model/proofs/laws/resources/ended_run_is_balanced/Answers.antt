use Rattle.fx_model.proofs.AcquiredNumbers.{acquired_in_order}
use Rattle.fx_model.proofs.BalancedRuns.{ended_run_is_balanced, run_is_balanced_so_far}
use Rattle.fx_model.proofs.laws.resources.ended_run_is_balanced.Goals as goal

pub returns-clause-ended : goal.returns-clause-ended
returns-clause-ended c = ended_run_is_balanced

pub returns-clause-so_far : goal.returns-clause-so_far
returns-clause-so_far c = run_is_balanced_so_far

pub returns-clause-in_order : goal.returns-clause-in_order
returns-clause-in_order c = acquired_in_order
