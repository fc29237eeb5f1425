use Rattle.std.proofs.Common.{◌≡◌, drop}
use Rattle.fx_run.specs.Ledger.{with_requests}
use Rattle.fx_run.proofs.ledger.Ledger.requests.Given as goal

abbrev pub invariant-loop-k : goal.invariant-loop-k
invariant-loop-k l = with_requests (drop l.k l.fn.outside) l.self ≡ with_requests l.fn.outside l.fn.self
