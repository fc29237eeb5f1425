-- Schedules: the texts that spell picks, and the first fault of any other.
use Rattle.std.specs.Prelude.{
  ◌≡◌,
  ℕ,
  zero,
  suc,
  ◌-◌,
  ◌<◌,
  ◌≤◌,
  nat_lt,
  nat_le,
  Bool,
  true,
  not,
  ◌==◌,
  if◌then◌else◌,
  Result,
  Ok,
  Err,
  List,
  [],
  ◌∷◌,
  ◌++◌,
  length,
  take,
  drop,
}
use Rattle.std.specs.List.{list_all, prefix_len}
use Rattle.fx_text.specs.declared.pick.Pick.{Pick}
use Rattle.fx_text.specs.declared.pick.Pick.TheVariants as pick
use Rattle.fx_text.specs.declared.fault.TextKind.{TextKind}
use Rattle.fx_text.specs.declared.fault.TextKind.TheVariants as kind
use Rattle.fx_text.specs.declared.fault.TextFault.{TextFault}
use Rattle.fx_text.specs.declared.fault.Fault.{Fault}
use Rattle.fx_text.specs.Limits.{most_schedule_bytes, most_picks, most_number}
use Rattle.fx_text.specs.Token.{Token, Number, is_space, is_digit, is_letter_or_digit, value_after, number, after_spaces}
use Rattle.fx_text.specs.Reading.{◌>>=◌, Read, at_offset}

-- ---- the grammar

-- digits, one or more, that write this number
pub record IsNumber (digits : List ℕ) (n : ℕ) : Type 0 where
  pub some : 0 < length digits
  pub all : list_all is_digit digits ≡ true
  pub value : value_after 0 digits ≡ n
  pub small : n ≤ most_number

-- the word of a pick: a number, or a `c` and a number
pub data IsWord : List ℕ → Pick → Type 0 where
  step : {digits : List ℕ} {n : ℕ} → IsNumber digits n → IsWord digits (pick.Step n)
  cancel : {digits : List ℕ} {n : ℕ} → IsNumber digits n → IsWord (99 ∷ digits) (pick.Cancel n)

-- a word ends before this
abbrev pub EndsWord : List ℕ → Type 0
EndsWord [] = Unit {0}
EndsWord (b ∷ bytes) = is_space b ≡ true

-- the text has the words of these picks, each as long as can be, and spaces
pub data SpellsPicks : List ℕ → List Pick → Type 0 where
  nothing : SpellsPicks [] []
  space : {b : ℕ} {text : List ℕ} {ps : List Pick} → is_space b ≡ true → SpellsPicks text ps → SpellsPicks (b ∷ text) ps
  word : {all : List ℕ} {p : Pick} {ps : List Pick} (own rest : List ℕ)
      → IsWord own p → EndsWord rest → SpellsPicks rest ps → all ≡ own ++ rest → SpellsPicks all (p ∷ ps)

-- the text is a schedule of these picks
pub record IsSchedule (text : List ℕ) (ps : List Pick) : Type 0 where
  pub short : length text ≤ most_schedule_bytes
  pub few : length ps ≤ most_picks
  pub spells : SpellsPicks text ps

-- ---- reading from left to right, up to the first fault

-- a byte of a word
abbrev pub is_inside : ℕ → Bool
is_inside b = not (is_space b)

-- the number of a token that is one, unless it is too large
abbrev pub small_number : Token → Result ℕ TextKind
small_number (Number n) = if nat_le n most_number then Ok n else Err kind.Number
small_number _ = Err kind.Number

-- the number that digits write, or why there is none
abbrev pub number_of : List ℕ → Result ℕ TextKind
number_of [] = Err kind.Unwanted
number_of (d ∷ ds) = if list_all is_digit (d ∷ ds) then small_number (number (d ∷ ds)) else Err kind.Unwanted

-- a pick of that number
abbrev pub picked : (ℕ → Pick) → Result ℕ TextKind → Result Pick TextKind
picked of (Ok n) = Ok (of n)
picked of (Err k) = Err k

-- the pick of a word of letters and digits, or why there is none
abbrev pub pick_of : List ℕ → Result Pick TextKind
pick_of [] = Err kind.Unwanted
pick_of (b ∷ bytes) = if b == 99 then picked pick.Cancel (number_of bytes) else picked pick.Step (number_of (b ∷ bytes))

-- the fault is at the first byte of the word, from which on there are so many bytes
abbrev pub at_word : {A : Type 0} → ℕ → Result A TextKind → Result A Fault
at_word from (Ok x) = Ok x
at_word from (Err k) = Err (record { kind = k; left = from })

-- the pick of a word; its bytes come before its form
abbrev pub word_at : ℕ → List ℕ → Result Pick Fault
word_at from own = if nat_lt (prefix_len is_letter_or_digit own) (length own)
    then Err (record { kind = kind.Byte; left = from - prefix_len is_letter_or_digit own }) else at_word from (pick_of own)

-- the pick of the word at the front, and what is left after it
unfoldable pub pick_at : List ℕ → Read Pick
pick_at text = do
  p ← word_at (length text) (take (prefix_len is_inside text) text)
  Ok (p, drop (prefix_len is_inside text) text)

-- the picks from a word on, where so many more words may come
unfoldable pub picks_at : ℕ → List ℕ → Result (List Pick) Fault
picks_at left [] = Ok []
picks_at zero (b ∷ bytes) = Err (record { kind = kind.Size; left = length (b ∷ bytes) })
picks_at (suc left) (b ∷ bytes) = do
  (p, rest) ← pick_at (b ∷ bytes)
  ps ← picks_at left (after_spaces rest)
  Ok (p ∷ ps)

-- the picks of a text, or its first fault
abbrev pub schedule_reading : List ℕ → Result (List Pick) TextFault
schedule_reading text = if nat_lt most_schedule_bytes (length text) then Err (record { kind = kind.Length; at = most_schedule_bytes })
    else at_offset (length text) (picks_at most_picks (after_spaces text))
