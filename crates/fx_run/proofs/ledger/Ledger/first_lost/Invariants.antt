use Rattle.std.proofs.Common.{◌≡◌, ◌<◌, ℕ, false}
use Rattle.fx_run.specs.Ledger.{is_lost_in}
use Rattle.fx_run.proofs.ledger.Ledger.first_lost.Given as goal

abbrev pub invariant-loop-id : goal.invariant-loop-id
invariant-loop-id l = (g : ℕ) → g < l.id → is_lost_in l.fn.self g ≡ false
