use Rattle.std.proofs.Common.{◌≡◌, length}
use Rattle.fx_picture.specs.Bars.{closing_row}
use Rattle.fx_picture.proofs.bar.Bar.closing_row.Given as goal

abbrev pub invariant-loop-it : goal.invariant-loop-it
invariant-loop-it l = closing_row l.stood l.fiber l.self l.rest ≡ closing_row l.stood l.fiber l.self l.list

abbrev pub decreases-loop-it : goal.decreases-loop-it
decreases-loop-it l = length l.rest
