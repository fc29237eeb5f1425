use Rattle.std.proofs.Common.{◌≤◌, ℕ, subst}
use Rattle.std.specs.Prelude.{IfSome}
use Rattle.fx_word.specs.SeatView.{KnowsRequestStamp}
use Rattle.fx_word.specs.Words.{Seated}
use Rattle.fx_word.proofs.words.Words.look.Goals as goal

pub returns-clause-greatest : goal.returns-clause-greatest
returns-clause-greatest c =
    subst (λ (s : Seated). IfSome c.look.result (λ stamp. (t : ℕ) → KnowsRequestStamp s.view t → t ≤ stamp)) c.seat.view_is c.look.ensures.greatest
