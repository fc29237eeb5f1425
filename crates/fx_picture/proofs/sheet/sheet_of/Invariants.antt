use Rattle.std.proofs.Common.{◌≡◌, ◌≤◌, ◌+◌, length, map}
use Rattle.fx_picture.specs.Folds.{quiet_at, sheet_from, sheet_of}
use Rattle.fx_picture.proofs.sheet.sheet_of.Given as goal

-- what is drawn so far and the other events make all
abbrev pub invariant-loop-it : goal.invariant-loop-it
invariant-loop-it l = record {
  sheet : sheet_from l.stood l.drawn.items l.rows l.rest ≡ sheet_of l.stood l.list;
  marked : l.quiet.items ≡ map (quiet_at l.stood) l.drawn.items;
  each : length l.drawn.items + length l.rest ≡ length l.list;
  few : l.rows ≤ length l.drawn.items;
}

abbrev pub decreases-loop-it : goal.decreases-loop-it
decreases-loop-it l = length l.rest
