-- The level above the words of a set after a change of one word.
use Rattle.std.proofs.Common.{◌≡◌, ℕ, ◌<◌, true, false, List, length, get_or, set, replicate, sym, ◌∙◌, ap, arith, inl, inr}
use Rattle.std.proofs.Common.{get_or-set_same, get_or-set_other}
use Rattle.std.specs.Prelude.{◌==◌, nat_lt, slice_index}
use Rattle.std.specs.Int.{bit_at}
use Rattle.std.proofs.lemmas.Bool.{cases_eq, ltb-false, lt-ltb}
use Rattle.std.proofs.lemmas.Nat.Bits.{bit_at-zero}
use Rattle.fx_plain.specs.NumberSet.{AreMarked}
use Rattle.fx_term.proofs.BitLaws.{ChangesBit, with_bit, without_bit, with_changes, without_changes, with_is_above}
use Rattle.fx_plain.proofs.Members.{zero_at}

module _ (ws : List ℕ) (marks w : ℕ) (long : length ws ≡ 64) (lt : w < 64) (marked : AreMarked marks ws) where
  -- where the mark of a word is changed as the word is, the words are marked
  stay_marked : (new marks' : ℕ) → ChangesBit marks marks' w (nat_lt 0 new) → AreMarked marks' (set ws w new)
  stay_marked new marks' c i below = elim (cases_eq i w) [
    | inl same ↦
        ap (λ (j : ℕ). bit_at marks' j == 1) same ∙ c.at
        ∙ sym (ap (λ (j : ℕ). nat_lt 0 (get_or (set ws w new) j 0)) same ∙ ap (nat_lt 0) (get_or-set_same ws w new 0 (omega arith)))
    | inr ne ↦ ap (λ (x : ℕ). x == 1) (c.elsewhere i below ne) ∙ marked i below ∙ sym (ap (nat_lt 0) (get_or-set_other ws w i new 0 ne))
  ]

  module _ (k : ℕ) (place : k < 64) where
    abbrev word : ℕ
    word = slice_index ws w

    pub insert_marks : AreMarked (with_bit marks w) (set ws w (with_bit word k))
    insert_marks =
        let c = with_changes marks w lt in
        let some : nat_lt 0 (with_bit word k) ≡ true = lt-ltb 0 (with_bit word k) (with_is_above word k place) in
        stay_marked (with_bit word k) (with_bit marks w) (record { at = c.at ∙ sym some; elsewhere = c.elsewhere })

    pub remove_marks_last : without_bit word k ≡ 0 → AreMarked (without_bit marks w) (set ws w (without_bit word k))
    remove_marks_last zero =
        let c = without_changes marks w lt in
        stay_marked (without_bit word k) (without_bit marks w) (record { at = c.at ∙ sym (ap (nat_lt 0) zero); elsewhere = c.elsewhere })

-- a word whose mark is not set is 0
pub unmarked_is_zero : (ws : List ℕ) (marks i : ℕ) → AreMarked marks ws → i < 64 → bit_at marks i ≡ 0 → slice_index ws i ≡ 0
unmarked_is_zero ws marks i marked lt e =
    let f : nat_lt 0 (slice_index ws i) ≡ false = sym (marked i lt) ∙ ap (λ (b : ℕ). b == 1) e in
    let le = ltb-false 0 (slice_index ws i) f in
    omega arith

pub zeros_marked : (ws : List ℕ) → ws ≡ replicate 64 0 → AreMarked 0 ws
zeros_marked ws e i lt = ap (λ (b : ℕ). b == 1) (bit_at-zero i) ∙ sym (ap (λ (xs : List ℕ). nat_lt 0 (slice_index xs i)) e ∙ ap (nat_lt 0) (zero_at i))
