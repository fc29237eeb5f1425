-- Registers with one more number.
use Rattle.std.proofs.Common.{◌≡◌, ℕ, zero, suc, ◌≤◌, Some, List, [], ◌∷◌, length, refl, ap, arith}
use Rattle.std.specs.Prelude.{slice_index}
use Rattle.fx_term.specs.Fill.{AgreeBelow}
use Rattle.fx_term.specs.Registers.{with_number}

-- the numbers below the name stay
pub agree_below : (x n : ℕ) (ns : List ℕ) → x ≤ length ns → AgreeBelow x ns (with_number (Some x) n ns)
agree_below zero n ns h i p = absurd (omega arith)
agree_below (suc x) n [] h i p = absurd (omega arith)
agree_below (suc x) n (m ∷ ns) h zero p = refl
agree_below (suc x) n (m ∷ ns) h (suc i) p = agree_below x n ns (omega arith) i (omega arith)

-- the name has the number
pub number_at : (x n : ℕ) (ns : List ℕ) → x ≤ length ns → slice_index (with_number (Some x) n ns) x ≡ n
number_at zero n ns h = refl
number_at (suc x) n [] h = absurd (omega arith)
number_at (suc x) n (m ∷ ns) h = number_at x n ns (omega arith)

-- a number put in place of one that was put for the same name
pub with_again : (x n m : ℕ) (ns : List ℕ) → x ≤ length ns → with_number (Some x) n (with_number (Some x) m ns) ≡ with_number (Some x) n ns
with_again zero n m ns h = refl
with_again (suc x) n m [] h = absurd (omega arith)
with_again (suc x) n m (k ∷ ns) h = ap (λ (ks : List ℕ). k ∷ ks) (with_again x n m ns (omega arith))

pub length_with : (x n : ℕ) (ns : List ℕ) → x ≤ length ns → length (with_number (Some x) n ns) ≡ suc x
length_with zero n ns h = refl
length_with (suc x) n [] h = absurd (omega arith)
length_with (suc x) n (m ∷ ns) h = let e = length_with x n ns (omega arith) in omega arith
