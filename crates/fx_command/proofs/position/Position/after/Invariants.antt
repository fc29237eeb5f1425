use Rattle.std.proofs.Common.{◌≡◌, ◌+◌, ◌≤◌, length}
use Rattle.fx_command.specs.Position.{line_after, column_after}
use Rattle.fx_command.proofs.position.Position.after.Given as goal

abbrev pub invariant-loop-rest : goal.invariant-loop-rest
invariant-loop-rest l = (line_after l.position.line l.rest ≡ line_after 1 l.before) × (column_after l.position.column l.rest ≡ column_after 1 l.before)
    × (l.position.line + length l.rest ≤ 1 + length l.before) × (l.position.column + length l.rest ≤ 1 + length l.before)

abbrev pub decreases-loop-rest : goal.decreases-loop-rest
decreases-loop-rest l = length l.rest
