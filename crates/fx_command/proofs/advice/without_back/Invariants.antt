use Rattle.std.proofs.Common.{length}
use Rattle.fx_command.proofs.advice.without_back.Given as goal

abbrev pub decreases-loop-left : goal.decreases-loop-left
decreases-loop-left l = length l.left
