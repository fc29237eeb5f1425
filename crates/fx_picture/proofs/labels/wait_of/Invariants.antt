use Rattle.std.proofs.Common.{◌≡◌, length}
use Rattle.fx_picture.specs.Labels.{wait_of}
use Rattle.fx_picture.proofs.labels.wait_of.Given as goal

abbrev pub invariant-loop-it : goal.invariant-loop-it
invariant-loop-it l = wait_of l.rest l.fiber ≡ wait_of l.blocked l.fiber

abbrev pub decreases-loop-it : goal.decreases-loop-it
decreases-loop-it l = length l.rest
