use Rattle.std.proofs.Common.{◌≡◌, Some, None, ◌∷◌, replicate}
use Rattle.fx_plain.proofs.plain_machine.alone.Given as goal

abbrev pub invariant-loop-other : goal.invariant-loop-other
invariant-loop-other g l = l.fibers.items ≡ Some l.fn.main ∷ replicate l._other None
