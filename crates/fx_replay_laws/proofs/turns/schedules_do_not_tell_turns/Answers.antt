use Rattle.fx_replay_laws.proofs.WithoutTurns.{replay_without, one_report_without}
use Rattle.fx_replay_laws.proofs.turns.schedules_do_not_tell_turns.Goals as goal

pub returns-clause-kept : goal.returns-clause-kept
returns-clause-kept c = replay_without

pub returns-clause-same : goal.returns-clause-same
returns-clause-same c = one_report_without
