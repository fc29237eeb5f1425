-- Numbers that rise, one more at the end.
use Rattle.std.proofs.Common.{◌≡◌, ℕ, ◌+◌, ◌<◌, ◌≤◌, List, [], ◌∷◌, ◌++◌, All, map, length, arith, ⊎_elim}
use Rattle.std.proofs.lemmas.List.{get_or_append_left, get_or_push, length-append, map-append}
use Rattle.std.specs.List.Sorted.{IsStrictlyIncreasing}
use Rattle.std.proofs.lemmas.List.Elements.{All-push, All-get_or}
use Rattle.std.proofs.lemmas.Bool.{cases_lt}

rises_more : (xs : List ℕ) (n x : ℕ) → IsStrictlyIncreasing xs → All (λ (k : ℕ). k < n) xs → n ≤ x → IsStrictlyIncreasing (xs ++ x ∷ [])
rises_more xs n x rise low at k h =
    let long = length-append xs (x ∷ []) in
    ⊎_elim
    (λ inside. omega (arith, get_or_append_left xs (x ∷ []) 0 k (omega arith), get_or_append_left xs (x ∷ []) 0 (k + 1) inside, rise k inside))
    (λ last. omega (
      arith,
      get_or_append_left xs (x ∷ []) 0 k (omega arith),
      get_or_push xs x 0 (k + 1) (omega arith),
      All-get_or (λ (k : ℕ). k < n) xs k 0 (omega arith) low,
    ))
    (cases_lt (k + 1) (length xs))

-- the numbers of these rise, and are below n
pub record Ascend {F : Type 0} (number : F → ℕ) (n : ℕ) (fs : List F) : Type 0 where
  pub rise : IsStrictlyIncreasing (map number fs)
  pub low : All (λ (k : ℕ). k < n) (map number fs)

module _ {F : Type 0} (number : F → ℕ) where
  pub none : (n : ℕ) → Ascend number n []
  none n = record { rise = λ k h. absurd (omega arith); low = λ k d h. absurd (omega arith) }

  pub one_more : (n x : ℕ) (fs : List F) (f : F) → n ≤ x → number f ≡ x → Ascend number n fs → Ascend number (x + 1) (fs ++ f ∷ [])
  one_more n x fs f le e a = record {
    rise = rw (map-append number fs (f ∷ [])) (rises_more (map number fs) n (number f) a.rise a.low (omega arith));
    low = rw (map-append number fs (f ∷ []))
        (All-push (λ (k : ℕ). k < x + 1) (map number fs) (number f) (λ k d h. let l = a.low k d h in omega arith) (omega arith));
  }
