use Rattle.std.proofs.Common.{◌≡◌, ◌+◌, ◌≤◌, length}
use Rattle.fx_places.specs.Handle.{behind_from, behind}
use Rattle.fx_places.proofs.handle.behind.Given as goal

-- what is sought is found in the rest
abbrev pub invariant-loop-byte : goal.invariant-loop-byte
invariant-loop-byte l =
    (behind_from l.here.line l.here.column l.position l.rest ≡ behind l.text l.position) × (l.here.line + length l.rest ≤ 1 + length l.text)
    × (l.here.column + length l.rest ≤ 1 + length l.text)

abbrev pub decreases-loop-byte : goal.decreases-loop-byte
decreases-loop-byte l = length l.rest
