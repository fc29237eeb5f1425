use Rattle.std.specs.Prelude.{◌-◌, length}
use Rattle.fx_plain.specs.NumberSet.{IsLeastOf}
use Rattle.fx_plain.specs.ClassSets.{class_at}
use Rattle.fx_plain.proofs.LeastReady.{ready_below}
use Rattle.fx_plain.proofs.classes.Classes.least.Given as goal

-- of those who are ready by the queues before this one, the least is found
abbrev pub invariant-loop-queue : goal.invariant-loop-queue
invariant-loop-queue l = IsLeastOf (λ f. ready_below l.queues l.from (class_at l.self.of f)) l.least

abbrev pub decreases-loop-queue : goal.decreases-loop-queue
decreases-loop-queue l = length l.queues - l.from
