use Rattle.std.proofs.Common.{◌≡◌, ◌++◌, length}
use Rattle.fx_places.specs.Places.{positions_of}
use Rattle.fx_places.proofs.place.positions.Given as goal

-- what is left is to be appended
abbrev pub invariant-loop-place : goal.invariant-loop-place
invariant-loop-place l = l.positions.items ++ positions_of l.rest ≡ positions_of l.places

abbrev pub decreases-loop-place : goal.decreases-loop-place
decreases-loop-place l = length l.rest
