use Rattle.fx_replay_laws.proofs.ToldBySchedule.{mask_is_replayed, inside_is_never_blocked}
use Rattle.fx_replay_laws.proofs.apart.schedules_tell_a_mask_from_its_inside.Goals as goal

pub returns-clause-mask : goal.returns-clause-mask
returns-clause-mask c = mask_is_replayed

pub returns-clause-inside : goal.returns-clause-inside
returns-clause-inside c = inside_is_never_blocked
