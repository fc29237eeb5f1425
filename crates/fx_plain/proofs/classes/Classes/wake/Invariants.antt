use Rattle.std.proofs.Common.{◌≡◌, ◌-◌}
use Rattle.fx_plain.proofs.Waking.{AreWoken}
use Rattle.fx_plain.proofs.classes.Classes.wake.Given as goal

-- those with lower numbers have been woken
abbrev pub invariant-loop-waiter : goal.invariant-loop-waiter
invariant-loop-waiter l = AreWoken l.fiber l.initial.self.of l.from l.self.of × (l.self.queues ≡ l.initial.self.queues)

abbrev pub decreases-loop-waiter : goal.decreases-loop-waiter
decreases-loop-waiter l = 4096 - l.from
