-- What a seat knows: the entry of its own fiber, and those of the seats that it took in.
use Rattle.std.specs.Prelude.{◌≡◌, ◌≢◌, ℕ, true, false, List, [], ◌∷◌, ◌++◌, ◌⊎◌, Some, None}
use Rattle.std.specs.List.{flat_map}
use Rattle.fx_term.specs.Lists.{Among}
use Rattle.fx_term.specs.declared.begin.Begin.{Begin}
use Rattle.fx_term.specs.declared.outcome.Outcome.{Outcome}
use Rattle.fx_word.specs.declared.entry.Entry.{Entry}
use Rattle.fx_word.specs.declared.seat_view.SeatView.{SeatView}
use Rattle.fx_word.specs.Entry.{new_entry, splitting, splits_of}

abbrev pub alone : Entry → SeatView
alone e = record { spent = false; own = e; taken = [] }

-- of the main fiber, which has all other numbers in its range
abbrev pub first_view : ℕ → SeatView
first_view n = alone (new_entry 0 None 1 n)

-- of a seat that another one took in
abbrev pub spent_view : SeatView
spent_view = record { spent = true; own = new_entry 0 None 0 0; taken = [] }

-- the same with another entry of its own fiber
abbrev pub with_own : SeatView → Entry → SeatView
with_own v e = record v { own = e }

-- what is left of a view by a split, and the view of the new seat
abbrev pub kept_part : Begin → SeatView → SeatView
kept_part b v = with_own v (splitting b v.own)

abbrev pub given_part : Begin → SeatView → SeatView
given_part b v = alone (new_entry v.own.next (Some (v.own.id, b)) b.next b.end)

-- the entry is the view's own, or one that it took in
abbrev pub In : Entry → SeatView → Type 0
In e v = (e ≡ v.own) ⊎ Among e v.taken

-- its own entry first
abbrev pub entries : SeatView → List Entry
entries v = v.own ∷ v.taken

-- all that its fibers split off
abbrev pub all_parts : SeatView → List (ℕ × Begin)
all_parts v = flat_map (λ (e : Entry). e.parts) (entries v)

-- the first view took the second one in
abbrev pub joined : SeatView → SeatView → SeatView
joined v w = record v { taken = entries w ++ v.taken }

-- the seat has seen a request of its own fiber, or made one, itself or as taken in
abbrev pub IsAsked : SeatView → Type 0
IsAsked v = (v.own.seen ≡ true) ⊎ ((e : Entry) × In e v × Among v.own.id e.asked)

-- the seat has learnt that i ended with o, or did so, itself or as taken in
abbrev pub Knows : SeatView → ℕ → Outcome → Type 0
Knows v i o = (e : Entry) × In e v × (Among (i, o) e.learnt ⊎ ((e.id ≡ i) × (e.ended ≡ Some o)))

-- the seat has loaded that stamp of a request of its own fiber, or made one with it, itself or as taken in
abbrev pub KnowsRequestStamp : SeatView → ℕ → Type 0
KnowsRequestStamp v t = Among t v.own.loaded ⊎ ((e : Entry) × In e v × Among (v.own.id, t) e.asked_with)

-- the seat has learnt that i ended with the stamp t, or did so, itself or as taken in
abbrev pub KnowsEndStamp : SeatView → ℕ → ℕ → Type 0
KnowsEndStamp v i t =
    (e : Entry) × In e v × (Among (i, t) e.learnt_stamps ⊎ ((o : Outcome) × (e.id ≡ i) × (e.ended ≡ Some o) × (e.stored_stamp ≡ Some t)))

-- what the first view knows the second one knows
pub record Keeps (v w : SeatView) : Type 0 where
  pub asked : IsAsked v → IsAsked w
  pub asked_with : (t : ℕ) → KnowsRequestStamp v t → KnowsRequestStamp w t
  pub ends : (i : ℕ) (o : Outcome) → Knows v i o → Knows w i o
  pub end_stamps : (i t : ℕ) → KnowsEndStamp v i t → KnowsEndStamp w i t

-- the seat is the main fiber's, and has taken in all that were split off
abbrev pub IsWhole : SeatView → Type 0
IsWhole v = (v.own.id ≡ 0) × ((e : Entry) → In e v → (i : ℕ) (b : Begin) → Among (i, b) e.parts → (d : Entry) × In d v × (d.id ≡ i))

-- what holds of the entries of such a seat
pub record IsSettled (v : SeatView) : Type 0 where
  -- a fiber has one entry
  pub one : (d e : Entry) → In d v → In e v → d.id ≡ e.id → d ≡ e
  -- who saw a request was requested
  pub requested : (e : Entry) → In e v → e.seen ≡ true → (d : Entry) × In d v × Among e.id d.asked
  -- with each stamp that it loaded
  pub requested_with : (e : Entry) → In e v → (t : ℕ) → Among t e.loaded → (d : Entry) × In d v × Among (e.id, t) d.asked_with
  -- what was learnt of an end is how that fiber ended
  pub ended : (e : Entry) → In e v → (i : ℕ) (o : Outcome) → Among (i, o) e.learnt → (d : Entry) × In d v × (d.id ≡ i) × (d.ended ≡ Some o)
  -- with the stamp that was learnt
  pub ended_with : (e : Entry) → In e v → (i t : ℕ) → Among (i, t) e.learnt_stamps → (d : Entry) × In d v × (d.id ≡ i) × (d.stored_stamp ≡ Some t)
  -- the main fiber has no beginning, and some fiber split each other one off
  pub main : (e : Entry) → In e v → e.id ≡ 0 → e.begin ≡ None
  pub started : (e : Entry) → In e v → e.id ≢ 0 → (d : Entry) × (b : Begin) × In d v × Among (e.id, b) d.parts
  -- a fiber began as the one that split it off says
  pub began : (e : Entry) → In e v → (i : ℕ) (b : Begin) → Among (i, b) e.parts → (d : Entry) → In d v → d.id ≡ i → d.begin ≡ Some (e.id, b)

-- all fibers of such a seat together split the main one off never, and each other one once
pub record AreSplitOffOnce (v : SeatView) : Type 0 where
  pub main : splits_of 0 (all_parts v) ≡ 0
  pub others : (e : Entry) → In e v → e.id ≢ 0 → splits_of e.id (all_parts v) ≡ 1
