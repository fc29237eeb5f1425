use Rattle.fx_findings.proofs.PrintedSchedules.{is_read}
use Rattle.fx_findings.proofs.laws.printed_schedule_is_read.Goals as goal

pub returns : goal.returns
returns c = is_read
