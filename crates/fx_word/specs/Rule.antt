-- The rule of the words: what the words and the views of all seats agree on. A fiber i has the words 4 * i, its state, 4 * i + 1, the number that it ended
-- with, and two for stamps.
use Rattle.std.specs.Prelude.{◌≡◌, ◌≢◌, ℕ, ◌+◌, ◌*◌, ◌<◌, ◌≤◌, Bool, true, false, List, [], ◌∷◌, ◌⊎◌, length, slice_index, Option, Some, None}
use mathlib.Core.Option.{some}
use lib.ListN.{get_elem?}
use Rattle.fx_term.specs.Lists.{Among}
use Rattle.fx_term.specs.declared.begin.Begin.{Begin}
use Rattle.fx_term.specs.declared.outcome.Outcome.{Outcome}
use Rattle.fx_word.specs.declared.entry.Entry.{Entry}
use Rattle.fx_word.specs.declared.seat_view.SeatView.{SeatView}
use Rattle.fx_word.specs.declared.state_word.EndKind.{EndKind}
use Rattle.fx_word.specs.StateWord.{end_kind, value_of, state_word}
use Rattle.fx_word.specs.Entry.{splits_of}
use Rattle.fx_word.specs.Stamps.{KeepsStamps}
use Rattle.fx_word.specs.SeatView.{In, entries}

-- the entry of each fiber that was split off, whichever seat has it
abbrev pub Book : Type 0
Book = ℕ → Option Entry

abbrev pub outcome_in : Option Entry → Option Outcome
outcome_in None = None
outcome_in (Some e) = e.ended

abbrev pub begin_in : Option Entry → Option (ℕ × Begin)
begin_in None = None
begin_in (Some e) = e.begin

-- by number: who is requested, how each ended, who split each off and what it began with, and in whose range a number is that was not split off
pub record Facts : Type 0 where
  pub bit : ℕ → Bool
  pub out : ℕ → Option Outcome
  pub begun : ℕ → Option (ℕ × Begin)
  pub keeper : ℕ → Option ℕ

abbrev pub facts : Book → (ℕ → Bool) → (ℕ → Option ℕ) → Facts
facts book bit keeper = record { bit = bit; out = λ i. outcome_in (book i); begun = λ i. begin_in (book i); keeper = keeper }

-- what an entry says is so
pub record Fits (z : Facts) (e : Entry) : Type 0 where
  pub asks : (i : ℕ) → Among i e.asked → z.bit i ≡ true
  pub sees : e.seen ≡ true → z.bit e.id ≡ true
  pub ends : (o : Outcome) → e.ended ≡ Some o → e.stored ≡ Some (value_of o)
  pub tells : (i : ℕ) (k : EndKind) → Among (i, k) e.told → (o : Outcome) × (z.out i ≡ Some o) × (end_kind o ≡ k)
  pub learns : (i : ℕ) (o : Outcome) → Among (i, o) e.learnt → z.out i ≡ Some o
  pub splits : (i : ℕ) (b : Begin) → Among (i, b) e.parts → z.begun i ≡ Some (e.id, b)
  pub once : (i : ℕ) → splits_of i e.parts ≤ 1
  pub above : e.id < e.next
  pub range : (i : ℕ) → e.next ≤ i → i < e.end → z.keeper i ≡ Some e.id

-- the fiber i is the main one, or a fiber of a lower number split it off, with what it began with
abbrev pub Root : Book → ℕ → Option (ℕ × Begin) → Type 0
Root book i began = ((i ≡ 0) × (began ≡ None)) ⊎ ((f : ℕ) × (d : Entry) × (b : Begin) × (f < i) × (book f ≡ Some d) × Among (i, b) d.parts
    × (began ≡ Some (f, b)))

-- the words against the entries, and each entry against all. A request bit is set exactly where some entry asked, the done bits are those of the
-- end, and a number in a range was not split off
pub record Kept (n : ℕ) (words : List ℕ) (book : Book) (bit : ℕ → Bool) (keeper : ℕ → Option ℕ) : Type 0 where
  pub long : length words ≡ 4 * n
  pub named : (i : ℕ) (e : Entry) → book i ≡ Some e → (e.id ≡ i) × (i < n)
  pub fits : (i : ℕ) (e : Entry) → book i ≡ Some e → Fits (facts book bit keeper) e
  pub state : (i : ℕ) → i < n → slice_index words (4 * i) ≡ state_word (bit i) (outcome_in (book i))
  pub value : (i : ℕ) (e : Entry) (x : ℕ) → book i ≡ Some e → e.stored ≡ Some x → slice_index words (4 * i + 1) ≡ x
  pub asked : (i : ℕ) → bit i ≡ true → (f : ℕ) × (e : Entry) × (book f ≡ Some e) × Among i e.asked
  pub free : (i f : ℕ) → keeper i ≡ Some f → (book i ≡ None) × (i < n)
  pub rooted : (i : ℕ) (e : Entry) → book i ≡ Some e → Root book i e.begin

-- the entries are of different fibers
abbrev pub Apart : List Entry → Type 0
Apart [] = Unit {0}
Apart (e ∷ es) = ((d : Entry) → Among d es → d.id ≢ e.id) × Apart es

-- the seat at p has the entries of its view, each once, and no other seat has them
pub record Dealt (book : Book) (seat : ℕ → ℕ) (p : ℕ) (v : SeatView) : Type 0 where
  pub here : (e : Entry) → In e v → (book e.id ≡ Some e) × (seat e.id ≡ p)
  pub apart : Apart (entries v)

-- the seat that has the entry of i is not spent
abbrev pub Held : (ℕ → ℕ) → List SeatView → ℕ → Entry → Type 0
Held seat views i e = (v : SeatView) × (get_elem? views (seat i) ≡ some v) × (v.spent ≡ false) × In e v

-- each entry is in one view that is not spent
abbrev pub Ruled : ℕ → List ℕ → List SeatView → Type 0
Ruled n words views =
    (book : Book) × (bit : ℕ → Bool) × (keeper : ℕ → Option ℕ) × (seat : ℕ → ℕ)
    × Kept n words book bit keeper
    × ((p : ℕ) (v : SeatView) → get_elem? views p ≡ some v → v.spent ≡ false → Dealt book seat p v)
    × ((i : ℕ) (e : Entry) → book i ≡ Some e → Held seat views i e)
    × KeepsStamps words book bit
