use Rattle.std.proofs.Common.{◌-◌, ◌≤◌, length}
use Rattle.fx_command.proofs.open_groups.OpenGroups.after.Given as goal

abbrev pub invariant-loop-at : goal.invariant-loop-at
invariant-loop-at l = l.at ≤ length l.before

abbrev pub decreases-loop-at : goal.decreases-loop-at
decreases-loop-at l = length l.before - l.at
