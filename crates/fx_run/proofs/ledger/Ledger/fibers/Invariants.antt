use Rattle.std.proofs.Common.{◌≡◌, drop}
use Rattle.fx_run.specs.Ledger.{with_fibers}
use Rattle.fx_run.proofs.ledger.Ledger.fibers.Given as goal

abbrev pub invariant-loop-k : goal.invariant-loop-k
invariant-loop-k l = with_fibers (drop l.k l.fn.bares) l.self ≡ with_fibers l.fn.bares l.fn.self
