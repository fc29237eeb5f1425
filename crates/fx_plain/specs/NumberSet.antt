-- A set of numbers as bits in two levels.
use Rattle.std.specs.Prelude.{◌≡◌, ℕ, ◌<◌, ◌≤◌, Bool, true, false, ◌==◌, nat_lt, min, Option, Some, None, MatchOption, List, [], slice_index}
use Rattle.std.specs.Prelude.{slice_index_or}
use Rattle.std.specs.Int.{bit_at}
use Rattle.fx_term.specs.Bits.{has_bit}
use Rattle.fx_plain.specs.declared.number_set.TheConstants.{WORDS}

-- the number is in the set
abbrev pub is_member : List ℕ → ℕ → Bool
is_member words n = has_bit words n

-- the number is in the set of that index
abbrev pub is_member_of : List (List ℕ) → ℕ → ℕ → Bool
is_member_of sets i n = is_member (slice_index_or sets i []) n

-- the bit of a word in the level above is set exactly where some bit of that word is
abbrev pub AreMarked : ℕ → List ℕ → Type 0
AreMarked marks words = (i : ℕ) → i < WORDS → (bit_at marks i == 1) ≡ nat_lt 0 (slice_index words i)

-- the least number that passes a test, if there is one
abbrev pub IsLeastOf : (ℕ → Bool) → Option ℕ → Type 0
IsLeastOf test least = MatchOption least ((n : ℕ) → test n ≡ false) (λ n. (test n ≡ true) × ((k : ℕ) → k < n → test k ≡ false))

-- the least number from this one on that passes it, if there is one
abbrev pub IsLeastFrom : ℕ → (ℕ → Bool) → Option ℕ → Type 0
IsLeastFrom from test least =
    MatchOption least ((n : ℕ) → from ≤ n → test n ≡ false) (λ n. (from ≤ n) × (test n ≡ true) × ((k : ℕ) → from ≤ k → k < n → test k ≡ false))

-- the lesser of two numbers, of those that there are
abbrev pub lesser : Option ℕ → Option ℕ → Option ℕ
lesser None b = b
lesser (Some m) None = Some m
lesser (Some m) (Some n) = Some (min m n)
