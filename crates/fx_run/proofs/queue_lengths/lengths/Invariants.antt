use Rattle.std.proofs.Common.{◌≡◌, map, take}
use Rattle.fx_run.specs.ClosedAs.{lengths_of}
use Rattle.fx_run.proofs.queue_lengths.lengths.Given as goal

abbrev pub invariant-loop-k : goal.invariant-loop-k
invariant-loop-k l = l.lengths.items ≡ lengths_of (map (λ items. items.items) (take l.k l.fn.left))
