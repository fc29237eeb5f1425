-- Words and seats as contracts see them.
use Rattle.std.specs.Prelude.{◌≡◌, ℕ}
use Rattle.atomic_table.specs.Seated.{TableId}
use Rattle.fx_term.specs.declared.begin.Begin.{Begin}
use Rattle.fx_word.specs.declared.entry.Entry.{Entry}
use Rattle.fx_word.specs.declared.seat_view.SeatView.{SeatView}
use Rattle.fx_word.specs.SeatView.{with_own, kept_part, given_part, joined}

-- which words they are, and of how many fibers
pub record WordsId : Type 0 where
  pub table : TableId
  pub fibers : ℕ

-- which words a seat belongs to, and what it knows
pub record Seated : Type 0 where
  pub table : TableId
  pub view : SeatView

-- it is a seat of these words
abbrev pub IsOf : Seated → WordsId → Type 0
IsOf s w = s.table ≡ w.table

-- the seat with another entry of its own fiber
abbrev pub with_entry : Seated → Entry → Seated
with_entry s e = record s { view = with_own s.view e }

-- what a split leaves of a seat, and what it gives
abbrev pub kept_seat : Begin → Seated → Seated
kept_seat b s = record s { view = kept_part b s.view }

abbrev pub given_seat : Begin → Seated → Seated
given_seat b s = record s { view = given_part b s.view }

-- the first seat took the second one in
abbrev pub joined_seat : Seated → Seated → Seated
joined_seat s t = record s { view = joined s.view t.view }
