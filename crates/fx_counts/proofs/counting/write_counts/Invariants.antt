use Rattle.fx_counts.proofs.Counted.{AreWrittenTo}
use Rattle.fx_counts.proofs.counting.write_counts.Given as goal

abbrev pub invariant-loop-k : goal.invariant-loop-k
invariant-loop-k l = AreWrittenTo l.queue l.list l.told l.fn.counts l.k l.counts
