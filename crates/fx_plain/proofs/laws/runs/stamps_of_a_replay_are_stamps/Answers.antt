use Rattle.fx_plain.proofs.ChosenRuns.{replay_is_stamped, replay_is_lawful_with_stamps}
use Rattle.fx_plain.proofs.laws.runs.stamps_of_a_replay_are_stamps.Goals as goal

pub returns-clause-in_list : goal.returns-clause-in_list
returns-clause-in_list c = replay_is_stamped

pub returns-clause-in_order : goal.returns-clause-in_order
returns-clause-in_order c = replay_is_lawful_with_stamps
