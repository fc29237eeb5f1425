use Rattle.fx_spawn_laws.proofs.CancelLaws.{started_in_mask}
use Rattle.fx_spawn_laws.proofs.canceling.uncancelable_start_is_cancelable.Goals as goal

pub returns-clause-main : goal.returns-clause-main
returns-clause-main c s may r is lawful alone = (started_in_mask s may r is lawful alone).0

pub returns-clause-child : goal.returns-clause-child
returns-clause-child c s may r is lawful alone = (started_in_mask s may r is lawful alone).1
