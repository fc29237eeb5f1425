use Rattle.std.proofs.Common.{◌≡◌, ℕ, sym, subst}
use Rattle.std.specs.Prelude.{IfSome}
use Rattle.fx_word.specs.SeatView.{Knows, KnowsEndStamp}
use Rattle.fx_word.specs.Words.{Seated}
use Rattle.fx_word.proofs.words.Words.peek.Goals as goal

pub returns-clause-knows : goal.returns-clause-knows
returns-clause-knows c k w = c.peek.ensures.knows k (subst (λ (s : Seated). Knows s.view c.args.id k) (sym c.seat.view_is) w)

pub returns-clause-stamp : goal.returns-clause-stamp
returns-clause-stamp c =
    subst (λ (s : Seated). IfSome c.peek.result (λ r. (t : ℕ) → KnowsEndStamp s.view c.args.id t → r.1 ≡ t)) c.seat.view_is c.peek.ensures.stamp
