use Rattle.fx_replay_laws.proofs.ToldBySchedule.{never_is_replayed, canceled_is_never_blocked}
use Rattle.fx_replay_laws.proofs.apart.schedules_tell_never_from_canceled.Goals as goal

pub returns-clause-never : goal.returns-clause-never
returns-clause-never c = never_is_replayed

pub returns-clause-canceled : goal.returns-clause-canceled
returns-clause-canceled c = canceled_is_never_blocked
