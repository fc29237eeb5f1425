-- The numbers of the names in scope, by slot.
use Rattle.std.specs.Prelude.{ℕ, ◌≤◌, Option, Some, None, List, [], ◌∷◌, ◌++◌, take}

-- the numbers with one for the binder's name, and none above it
abbrev pub with_number : Option ℕ → ℕ → List ℕ → List ℕ
with_number None n numbers = numbers
with_number (Some x) n numbers = take x numbers ++ n ∷ []

-- that many numbers reach up to the binder's name
abbrev pub ReachUpTo : Option ℕ → ℕ → Type 0
ReachUpTo None count = Unit {0}
ReachUpTo (Some x) count = x ≤ count
