-- Which numbers are children already, and which may become children next.
use Rattle.std.specs.Prelude.{◌≡◌, ℕ, ◌<◌, nat_eq, Bool, false, List, ◌++◌, length, slice_index_or, All, MatchBool}
use Rattle.std.specs.List.{IsDistinct, list_any}

-- a number is marked exactly where it stands in the list
abbrev pub AreMarks : List ℕ → List Bool → Type 0
AreMarks seen marks = (k : ℕ) → k < length marks → slice_index_or marks k false ≡ list_any (nat_eq k) seen

-- these numbers stand before the parent, and none stands twice in the list with them
pub record MayFollow (seen : List ℕ) (parent : ℕ) (cs : List ℕ) : Type 0 where
  pub before : All (λ c. c < parent) cs
  pub once : IsDistinct nat_eq (seen ++ cs)

-- children of a parent are marked, whatever was marked before; the answer is false where they may not follow it
abbrev pub TakesChildren : ℕ → List ℕ → List Bool → Bool → List Bool → Type 0
TakesChildren parent cs old answer new =
    (seen : List ℕ) → IsDistinct nat_eq seen → AreMarks seen old
    → MatchBool answer (MayFollow seen parent cs × AreMarks (seen ++ cs) new) (¬ MayFollow seen parent cs)
