use Rattle.fx_counts.proofs.Counted.{AreCountedBelow}
use Rattle.fx_counts.proofs.counting.counts.Given as goal

abbrev pub invariant-loop-queue : goal.invariant-loop-queue
invariant-loop-queue l = AreCountedBelow l.capacities l.report l.list l.queue l.counts.items
