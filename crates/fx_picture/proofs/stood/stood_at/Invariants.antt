use Rattle.std.proofs.Common.{◌≡◌, length}
use Rattle.fx_picture.specs.Stood.{stood_at}
use Rattle.fx_picture.proofs.stood.stood_at.Given as goal

abbrev pub invariant-loop-it : goal.invariant-loop-it
invariant-loop-it l = stood_at l.rest l.fiber l.left ≡ stood_at l.stood l.fiber l.place

abbrev pub decreases-loop-it : goal.decreases-loop-it
decreases-loop-it l = length l.rest
