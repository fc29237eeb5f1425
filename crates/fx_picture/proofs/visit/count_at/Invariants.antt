use Rattle.std.proofs.Common.{◌≡◌, ◌≤◌, ◌+◌, length}
use Rattle.fx_picture.specs.Visits.{count_at}
use Rattle.fx_picture.proofs.visit.count_at.Given as goal

abbrev pub invariant-loop-it : goal.invariant-loop-it
invariant-loop-it l = record {
  count : count_at l.queue l.count l.rest ≡ count_at l.queue 0 l.list;
  few : l.count + length l.rest ≤ length l.list;
}

abbrev pub decreases-loop-it : goal.decreases-loop-it
decreases-loop-it l = length l.rest
