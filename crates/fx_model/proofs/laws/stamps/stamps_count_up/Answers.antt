use Rattle.fx_model.proofs.StampedReports.{first_stamp, stamp_rises, stamp_is_above_cause}
use Rattle.fx_model.proofs.laws.stamps.stamps_count_up.Goals as goal

pub returns-clause-first : goal.returns-clause-first
returns-clause-first c = first_stamp

pub returns-clause-rising : goal.returns-clause-rising
returns-clause-rising c = stamp_rises

pub returns-clause-cause : goal.returns-clause-cause
returns-clause-cause c = stamp_is_above_cause
