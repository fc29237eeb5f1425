use Rattle.std.proofs.Common.{◌<◌, ℕ}
use Rattle.std.specs.List.{AllPairs}
use Rattle.fx_run.specs.Closing.{AreMarked}
use Rattle.fx_run.proofs.closing.marked.Given as goal

abbrev pub invariant-loop-id : goal.invariant-loop-id
invariant-loop-id l = record {
  rising : AllPairs (λ (i j : ℕ). i < j) l.numbers.items;
  marked : AreMarked l.id l.fn.marks l.numbers.items;
}
