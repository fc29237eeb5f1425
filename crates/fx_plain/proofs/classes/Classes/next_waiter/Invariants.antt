use Rattle.std.proofs.Common.{◌≤◌, ◌-◌}
use Rattle.fx_plain.specs.WaiterBlocks.{NobodyWaitsFor}
use Rattle.fx_plain.proofs.classes.Classes.next_waiter.Given as goal

-- nobody was passed over that waits for this end
abbrev pub invariant-loop-marked : goal.invariant-loop-marked
invariant-loop-marked l = (l.from ≤ l.at) × NobodyWaitsFor l.self.of l.fiber l.from l.at

abbrev pub decreases-loop-marked : goal.decreases-loop-marked
decreases-loop-marked l = 4096 - l.at
