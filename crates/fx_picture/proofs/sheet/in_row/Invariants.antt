use Rattle.std.proofs.Common.{◌≡◌, ◌++◌, length}
use Rattle.fx_picture.specs.Folds.{in_row}
use Rattle.fx_picture.proofs.sheet.in_row.Given as goal

abbrev pub invariant-loop-it : goal.invariant-loop-it
invariant-loop-it l = l.list.items ++ in_row l.row l.rest ≡ in_row l.row l.drawn

abbrev pub decreases-loop-it : goal.decreases-loop-it
decreases-loop-it l = length l.rest
