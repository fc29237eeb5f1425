use Rattle.fx_plain.proofs.MachineStampsRuns.{settled_is_stamped, settled_is_lawful_with_stamps}
use Rattle.fx_plain.proofs.laws.runs.stamps_of_a_run_are_stamps.Goals as goal

pub returns-clause-in_list : goal.returns-clause-in_list
returns-clause-in_list c = settled_is_stamped

pub returns-clause-in_order : goal.returns-clause-in_order
returns-clause-in_order c = settled_is_lawful_with_stamps
