use Rattle.std.proofs.Common.{◌+◌, ◌≤◌, length}
use Rattle.fx_places.specs.Places.{StandsAt}
use Rattle.fx_places.specs.Walk.{IsWalk}
use Rattle.fx_places.proofs.place.places.Given as goal

abbrev pub invariant-loop-byte : goal.invariant-loop-byte
invariant-loop-byte l =
    StandsAt l.text l.rest l.position × IsWalk l.text l.code.nodes l.walk × (l.position.line + length l.rest ≤ 1 + length l.text)
    × (l.position.column + length l.rest ≤ 1 + length l.text)

abbrev pub decreases-loop-byte : goal.decreases-loop-byte
decreases-loop-byte l = length l.rest
