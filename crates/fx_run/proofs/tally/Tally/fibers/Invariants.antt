use Rattle.std.proofs.Common.{◌≡◌, drop}
use Rattle.fx_run.specs.Tally.{with_lives}
use Rattle.fx_run.proofs.tally.Tally.fibers.Given as goal

abbrev pub invariant-loop-k : goal.invariant-loop-k
invariant-loop-k g l = with_lives (drop l.k l.fn.fibers) l.self ≡ with_lives l.fn.fibers l.fn.self
