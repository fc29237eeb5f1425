-- Words of 64 bits that differ in one bit, and the sets of numbers that they keep.
use Rattle.std.proofs.Common.{◌≡◌, ℕ, ◌-◌, ◌*◌, ◌^◌, ◌/◌, ◌%◌, ◌<◌, Bool, true, false, List, length, get_or, set, sym, ◌∙◌, ap, inl, inr, arith, w64}
use Rattle.std.proofs.Common.{bit_and, bit_or, get_or-set_same, get_or-set_other}
use Rattle.std.specs.Prelude.{◌==◌, slice_index}
use Rattle.std.specs.Int.{bit_at}
use Rattle.std.proofs.lemmas.Bool.{cases_eq, eq-eqb}
use Rattle.std.proofs.lemmas.Nat.Bits.{bit_at-zero, bit_at_set_same, bit_at_set_other, bit_at_clear_same, bit_at_clear_other}
use Rattle.fx_term.specs.Bits.{has_bit}
use Rattle.fx_term.specs.Maps.{with_at}
use Rattle.fx_term.proofs.MapLaws.{at_that, at_other}

-- the new word has this at the bit, and is the old one elsewhere
pub record ChangesBit (old new k : ℕ) (b : Bool) : Type 0 where
  pub at : (bit_at new k == 1) ≡ b
  pub elsewhere : (i : ℕ) → i < 64 → (i ≡ k → ⊥) → bit_at new i ≡ bit_at old i

abbrev pub with_bit : ℕ → ℕ → ℕ
with_bit x k = bit_or x (1 * 2 ^ k % 2 ^ 64)

abbrev pub without_bit : ℕ → ℕ → ℕ
without_bit x k = bit_and x (18446744073709551615 - 1 * 2 ^ k % 2 ^ 64)

module _ (x k : ℕ) (lt : k < 64) where
  pub with_changes : ChangesBit x (with_bit x k) k true
  with_changes = record { at = eq-eqb (bit_at (with_bit x k) k) 1 (bit_at_set_same w64 x k lt); elsewhere = λ i h ne. bit_at_set_other w64 x k lt i ne }

  pub without_changes : ChangesBit x (without_bit x k) k false
  without_changes = let e = bit_at_clear_same w64 x k lt in record { at = ap (λ (b : ℕ). b == 1) e; elsewhere = λ i h ne. bit_at_clear_other w64 x k lt i h ne }

-- a word with a bit is not 0
bit_is_above : (x i : ℕ) → bit_at x i ≡ 1 → 0 < x
bit_is_above x i e = elim (cases_eq x 0) [
  | inl zero ↦ absurd (let z : bit_at x i ≡ 0 = ap (λ (y : ℕ). bit_at y i) zero ∙ bit_at-zero i in omega arith)
  | inr ne ↦ (omega arith)
]

pub with_is_above : (x k : ℕ) → k < 64 → 0 < with_bit x k
with_is_above x k lt = bit_is_above (with_bit x k) k (bit_at_set_same w64 x k lt)

pub zero_has_none : (ws : List ℕ) (k : ℕ) → slice_index ws (k / 64) ≡ 0 → has_bit ws k ≡ false
zero_has_none ws k e = ap (λ (x : ℕ). bit_at x (k % 64) == 1) e ∙ ap (λ (b : ℕ). b == 1) (bit_at-zero (k % 64))

-- a number is its word and its place there
same_parts : (k n : ℕ) → k / 64 ≡ n / 64 → k % 64 ≡ n % 64 → k ≡ n
same_parts k n p q = omega arith

module _ (ws : List ℕ) (n : ℕ) (here : n / 64 < length ws) where
  abbrev word : ℕ
  word = slice_index ws (n / 64)

  -- where the word of n is changed at its bit, the set is changed at n
  changes_member : (new : ℕ) (b : Bool) → ChangesBit word new (n % 64) b → (k : ℕ) → has_bit (set ws (n / 64) new) k ≡ with_at n b (has_bit ws) k
  changes_member new b c k = elim (cases_eq (k / 64) (n / 64)) [
    | inl same ↦ in_word same
    | inr apart ↦
        ap (λ (x : ℕ). bit_at x (k % 64) == 1) (get_or-set_other ws (n / 64) (k / 64) new 0 apart)
        ∙ sym (at_other n b (has_bit ws) k (λ e. apart (ap (λ (j : ℕ). j / 64) e)))
  ]
    where
      in_word : k / 64 ≡ n / 64 → has_bit (set ws (n / 64) new) k ≡ with_at n b (has_bit ws) k
      in_word same =
          ap (λ (w : ℕ). bit_at (get_or (set ws (n / 64) new) w 0) (k % 64) == 1) same
          ∙ ap (λ (x : ℕ). bit_at x (k % 64) == 1) (get_or-set_same ws (n / 64) new 0 here)
          ∙ elim (cases_eq (k % 64) (n % 64)) [
            | inl e ↦ ap (λ (i : ℕ). bit_at new i == 1) e ∙ c.at ∙ sym (at_that n b (has_bit ws) k (same_parts k n same e))
            | inr ne ↦
                ap (λ (x : ℕ). x == 1) (c.elsewhere (k % 64) (omega arith) ne)
                ∙ ap (λ (w : ℕ). bit_at (slice_index ws w) (k % 64) == 1) (sym same)
                ∙ sym (at_other n b (has_bit ws) k (λ e. ne (ap (λ (j : ℕ). j % 64) e)))
          ]

  pub sets_bit : (k : ℕ) → has_bit (set ws (n / 64) (with_bit word (n % 64))) k ≡ with_at n true (has_bit ws) k
  sets_bit = changes_member (with_bit word (n % 64)) true (with_changes word (n % 64) (omega arith))

  pub clears_bit : (k : ℕ) → has_bit (set ws (n / 64) (without_bit word (n % 64))) k ≡ with_at n false (has_bit ws) k
  clears_bit = changes_member (without_bit word (n % 64)) false (without_changes word (n % 64) (omega arith))
