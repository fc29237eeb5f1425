-- Marks of numbers, and numbers that are listed each once.
use Rattle.std.specs.Prelude.{◌≡◌, ◌<◌, ◌≤◌, ℕ, Bool, true, false, ◌||◌, ◌-◌, List, [], ◌∷◌, ◌++◌, length, map, replicate, Option, Some, None}
use Rattle.std.specs.Prelude.{slice_index_or, slice_set}
use Rattle.std.specs.List.{range_with_len}
use Rattle.fx_term.specs.Bits.{has_bit}
use Rattle.fx_term.specs.Lists.{Among}
use Rattle.fx_queue.specs.WaitRing.{Apart}

abbrev pub is_marked : List Bool → ℕ → Bool
is_marked marks f = slice_index_or marks f false

-- the marks of so many numbers, of which each is marked that has its bit set
abbrev pub marks_of : ℕ → List ℕ → List Bool
marks_of n words = map (has_bit words) (range_with_len 0 n)

-- the same marks as a row of so many numbers: of those past its end none is marked
abbrev pub lengthened : ℕ → List Bool → List Bool
lengthened n marks = marks ++ replicate (n - length marks) false

-- each number that is marked comes before this one
abbrev pub AreBefore : ℕ → List Bool → Type 0
AreBefore end marks = (f : ℕ) → is_marked marks f ≡ true → f < end

-- and it is the least such number
pub record IsEndOf (end : ℕ) (marks : List Bool) : Type 0 where
  pub past : AreBefore end marks
  pub least : (k : ℕ) → AreBefore k marks → end ≤ k

-- a number of the first row is marked where it is in either
abbrev pub joined_marks : List Bool → List Bool → List Bool
joined_marks [] other = []
joined_marks (m ∷ marks) [] = m ∷ marks
joined_marks (m ∷ marks) (n ∷ other) = (m || n) ∷ joined_marks marks other

-- the numbers are those that are marked, each once
pub record AreListed (marks : List Bool) (numbers : List ℕ) : Type 0 where
  pub marked : (f : ℕ) → Among f numbers → is_marked marks f ≡ true
  pub listed : (f : ℕ) → is_marked marks f ≡ true → Among f numbers
  pub apart : Apart numbers

-- a number that was marked still is
abbrev pub KeepsMarks : List Bool → List Bool → Type 0
KeepsMarks marks marks' = (f : ℕ) → is_marked marks f ≡ true → is_marked marks' f ≡ true

-- a number that was marked is taken out, and the others stay; none, where none was marked
abbrev pub TakesMark : List Bool → Option ℕ → List Bool → Type 0
TakesMark marks (Some f) marks' = (is_marked marks f ≡ true) × (marks' ≡ slice_set marks f false)
TakesMark marks None marks' = ((f : ℕ) → is_marked marks f ≡ false) × (marks' ≡ marks)
