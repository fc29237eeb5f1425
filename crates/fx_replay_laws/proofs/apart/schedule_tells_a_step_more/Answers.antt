use Rattle.fx_replay_laws.proofs.ToldBySchedule.{value_succeeds_before, later_is_canceled}
use Rattle.fx_replay_laws.proofs.apart.schedule_tells_a_step_more.Goals as goal

pub returns-clause-without : goal.returns-clause-without
returns-clause-without c = value_succeeds_before

pub returns-clause-with_it : goal.returns-clause-with_it
returns-clause-with_it c = later_is_canceled
