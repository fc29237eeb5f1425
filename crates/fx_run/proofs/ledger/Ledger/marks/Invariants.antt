use Rattle.std.proofs.Common.{◌≡◌, drop}
use Rattle.fx_run.specs.Ledger.{with_marks}
use Rattle.fx_run.proofs.ledger.Ledger.marks.Given as goal

abbrev pub invariant-loop-id : goal.invariant-loop-id
invariant-loop-id g l = with_marks l.id (drop l.id l.fn.marks) l.self ≡ with_marks 0 l.fn.marks l.fn.self
