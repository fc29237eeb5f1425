use Rattle.std.proofs.Common.{append_assoc}
use Rattle.fx_command.proofs.passed.format_why.Goals as goal

pub returns-in-NotStarted : goal.returns-in-NotStarted
returns-in-NotStarted c = rw c.in-NotStarted.is (simp append_assoc c.format-in-NotStarted.ensures.ok)

pub returns-in-Ended : goal.returns-in-Ended
returns-in-Ended c = rw c.in-Ended.is (simp append_assoc c.format-in-Ended.ensures.ok)
