use Rattle.std.proofs.Common.{◌≡◌, length}
use Rattle.fx_picture.specs.Folds.{run_below}
use Rattle.fx_picture.proofs.tail.is_long.Given as goal

abbrev pub invariant-loop-run : goal.invariant-loop-run
invariant-loop-run l = run_below l.stood l.fiber l.run l.rest ≡ run_below l.stood l.fiber l.above l.below

abbrev pub decreases-loop-run : goal.decreases-loop-run
decreases-loop-run l = length l.rest
