use Rattle.std.proofs.Common.{◌≡◌, ◌≤◌, ◌+◌, drop, length}
use Rattle.fx_picture.specs.Folds.{no_tail, tail_by}
use Rattle.fx_picture.proofs.tail.Tail.of.Given as goal

abbrev pub invariant-loop-it : goal.invariant-loop-it
invariant-loop-it l = record {
  tail : tail_by l.fiber l.tail (drop (length l.yielded) l.above) (drop (length l.yielded) l.quiet) ≡ tail_by l.fiber no_tail l.above l.quiet;
  few : l.tail.run + length (drop (length l.yielded) l.above) ≤ length l.above;
}
