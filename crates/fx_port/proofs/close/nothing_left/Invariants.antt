use Rattle.std.proofs.Common.{◌≡◌, length}
use Rattle.fx_port.proofs.close.nothing_left.Given as goal

abbrev pub invariant-loop-made : goal.invariant-loop-made
invariant-loop-made l = length l.left.items ≡ l._made
