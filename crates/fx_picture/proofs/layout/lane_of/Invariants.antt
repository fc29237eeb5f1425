use Rattle.std.proofs.Common.{◌≡◌, ◌+◌, length}
use Rattle.fx_picture.specs.Layout.{lane_of}
use Rattle.fx_picture.proofs.layout.lane_of.Given as goal

abbrev pub invariant-loop-it : goal.invariant-loop-it
invariant-loop-it l = record {
  lanes : l.lane + length l.rest ≡ length l.fibers;
  before : l.lane + lane_of l.rest l.fiber ≡ lane_of l.fibers l.fiber;
}

abbrev pub decreases-loop-it : goal.decreases-loop-it
decreases-loop-it l = length l.rest
