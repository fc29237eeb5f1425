-- What each step on a word tells the seat that makes it: the word as it was found, and the seat's view after it.
use Rattle.std.specs.Prelude.{◌≡◌, ℕ, ◌+◌, ◌*◌, ◌≤◌, Bool, true, Option, Some}
use Rattle.atomic_table.specs.Table.{Step, Me}
use Rattle.fx_term.specs.Lists.{Among}
use Rattle.fx_term.specs.declared.outcome.Outcome.{Outcome}
use Rattle.fx_word.specs.declared.seat_view.SeatView.{SeatView}
use Rattle.fx_word.specs.declared.state_word.EndKind.{EndKind}
use Rattle.fx_word.specs.StateWord.{end_kind, value_of, done_bits, state_word}
use Rattle.fx_word.specs.Entry.{raising, setting, asking, seeing, loading, storing, storing_stamp, ending, telling, learning, learning_stamp}
use Rattle.fx_word.specs.SeatView.{with_own, IsAsked, Knows, KnowsRequestStamp, KnowsEndStamp}

-- the request's stamp of i is raised
abbrev pub raises_then : Step (Unit {0}) → Me (Unit {0}) SeatView → ℕ → Me (Unit {0}) SeatView → Type 0
raises_then s v found w = (i : ℕ) → s.word ≡ 4 * i + 2 → (w.0 ≡ with_own v.0 (raising i s.first v.0.own)) × (w.1 ≡ v.1)

-- the request bit of i is set, whose request's stamp was raised
abbrev pub asks_then : Step (Unit {0}) → Me (Unit {0}) SeatView → ℕ → Me (Unit {0}) SeatView → Type 0
asks_then s v found w = (i : ℕ) → s.word ≡ 4 * i → (w.0 ≡ with_own v.0 (setting i v.0.own)) × (w.1 ≡ v.1)

-- the request bit of i is set from outside
abbrev pub outside_asks_then : Step (Unit {0}) → Me (Unit {0}) SeatView → ℕ → Me (Unit {0}) SeatView → Type 0
outside_asks_then s v found w = (i : ℕ) → s.word ≡ 4 * i → (w.0 ≡ with_own v.0 (asking i 0 v.0.own)) × (w.1 ≡ v.1)

-- the own state word is loaded
abbrev pub looks_then : Step (Unit {0}) → Me (Unit {0}) SeatView → ℕ → Me (Unit {0}) SeatView → Type 0
looks_then s v found w =
    s.word ≡ 4 * v.0.own.id
    → (b : Bool) × (o : Option Outcome) × (found ≡ state_word b o) × (w.0 ≡ with_own v.0 (seeing b v.0.own)) × (w.1 ≡ v.1) × (IsAsked v.0 → b ≡ true)

-- the own request's stamp is loaded, once the bit was seen set: it is at least each that the seat knows of
abbrev pub loads_stamp_then : Step (Unit {0}) → Me (Unit {0}) SeatView → ℕ → Me (Unit {0}) SeatView → Type 0
loads_stamp_then s v found w =
    s.word ≡ 4 * v.0.own.id + 2 → (w.0 ≡ with_own v.0 (loading found v.0.own)) × (w.1 ≡ v.1) × ((t : ℕ) → KnowsRequestStamp v.0 t → t ≤ found)

-- the own value word is stored
abbrev pub stores_then : Step (Unit {0}) → Me (Unit {0}) SeatView → ℕ → Me (Unit {0}) SeatView → Type 0
stores_then s v found w = s.word ≡ 4 * v.0.own.id + 1 → (w.0 ≡ with_own v.0 (storing s.first v.0.own)) × (w.1 ≡ v.1)

-- the stamp of the own end is stored
abbrev pub stores_stamp_then : Step (Unit {0}) → Me (Unit {0}) SeatView → ℕ → Me (Unit {0}) SeatView → Type 0
stores_stamp_then s v found w = s.word ≡ 4 * v.0.own.id + 3 → (w.0 ≡ with_own v.0 (storing_stamp s.first v.0.own)) × (w.1 ≡ v.1)

-- the own done bits are set
abbrev pub ends_then : Step (Unit {0}) → Me (Unit {0}) SeatView → ℕ → Me (Unit {0}) SeatView → Type 0
ends_then s v found w =
    (o : Outcome) → v.0.own.stored ≡ Some (value_of o) → s.first ≡ done_bits (Some o) → (w.0 ≡ with_own v.0 (ending o v.0.own)) × (w.1 ≡ v.1)

-- the state word of i is loaded
abbrev pub tells_then : Step (Unit {0}) → Me (Unit {0}) SeatView → ℕ → Me (Unit {0}) SeatView → Type 0
tells_then s v found w = (i : ℕ) → s.word ≡ 4 * i
    → (b : Bool) × (o : Option Outcome) × (found ≡ state_word b o) × (w.0 ≡ with_own v.0 (telling i o v.0.own)) × (w.1 ≡ v.1)
    × ((k : Outcome) → Knows v.0 i k → o ≡ Some k)

-- the value word of i is loaded, whose kind of end the seat was told
abbrev pub learns_then : Step (Unit {0}) → Me (Unit {0}) SeatView → ℕ → Me (Unit {0}) SeatView → Type 0
learns_then s v found w = (i : ℕ) (k : EndKind) → s.word ≡ 4 * i + 1 → Among (i, k) v.0.own.told
    → (o : Outcome) × (end_kind o ≡ k) × (value_of o ≡ found) × (w.0 ≡ with_own v.0 (learning i o v.0.own)) × (w.1 ≡ v.1)
    × ((q : Outcome) → Knows v.0 i q → o ≡ q)

-- the stamp of i's end is loaded, once the seat was told that i has ended
abbrev pub learns_stamp_then : Step (Unit {0}) → Me (Unit {0}) SeatView → ℕ → Me (Unit {0}) SeatView → Type 0
learns_stamp_then s v found w = (i : ℕ) → s.word ≡ 4 * i + 3
    → (w.0 ≡ with_own v.0 (learning_stamp i found v.0.own)) × (w.1 ≡ v.1) × ((t : ℕ) → KnowsEndStamp v.0 i t → found ≡ t)
