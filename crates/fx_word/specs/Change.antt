-- How a call changes what its seat knows.
use Rattle.std.specs.Prelude.{◌≡◌, ℕ, Option, None}
use Rattle.fx_term.specs.declared.begin.Begin.{Begin}
use Rattle.fx_term.specs.declared.outcome.Outcome.{Outcome}
use Rattle.fx_word.specs.declared.seat_view.SeatView.{SeatView}
use Rattle.fx_word.specs.Entry.{asking, looking, finished, peeked}
use Rattle.fx_word.specs.SeatView.{with_own, kept_part, joined}

pub data Change (v : SeatView) : SeatView → Type 0 where
  requests : (i t : ℕ) → Change v (with_own v (asking i t v.own))
  looks : (found : Option ℕ) → Change v (with_own v (looking found v.own))
  splits : (b : Begin) → Change v (kept_part b v)
  finishes : (o : Outcome) (t : ℕ) → v.own.ended ≡ None → Change v (with_own v (finished o t v.own))
  peeks : (i : ℕ) (o : Outcome) (t : ℕ) → Change v (with_own v (peeked i o t v.own))
  gathers : (w : SeatView) → Change v (joined v w)
