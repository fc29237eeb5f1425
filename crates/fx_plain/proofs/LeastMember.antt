-- The least member of a set, by the first mark and the first bit of its word.
use Rattle.std.proofs.Common.{◌≡◌, ℕ, ◌+◌, ◌*◌, ◌/◌, ◌%◌, ◌^◌, ◌<◌, true, false, Some, List, refl, sym, ◌∙◌, ap, arith, inl, inr, w64}
use Rattle.std.specs.Prelude.{◌==◌, slice_index}
use Rattle.std.specs.Int.{bit_at, trailing_zeros}
use Rattle.std.proofs.lemmas.Bool.{cases_lt, ltb-true}
use Rattle.std.proofs.lemmas.Nat.Bits.{bit_at-trailing_zeros}
use Rattle.fx_plain.specs.NumberSet.{is_member, AreMarked, IsLeastOf}
use Rattle.fx_term.proofs.BitLaws.{zero_has_none}
use Rattle.fx_plain.proofs.Marks.{unmarked_is_zero}

module _ (ws : List ℕ) (marks : ℕ) (marked : AreMarked marks ws)
    (fits : marks < 2 ^ 64) (fit : slice_index ws (trailing_zeros w64 marks) < 2 ^ 64) (some : 0 < marks) where
  abbrev first_word : ℕ
  first_word = trailing_zeros w64 marks

  abbrev first_bit : ℕ
  first_bit = trailing_zeros w64 (slice_index ws first_word)

  pub first_is_least : IsLeastOf (is_member ws) (Some (64 * first_word + first_bit))
  first_is_least = (found, below)
    where
      high : (first_word < 64) × (bit_at marks first_word ≡ 1) × ((i : ℕ) → i < first_word → bit_at marks i ≡ 0)
      high = bit_at-trailing_zeros w64 marks some fits

      word_above : 0 < slice_index ws first_word
      word_above = ltb-true 0 (slice_index ws first_word) (sym (marked first_word high.0) ∙ ap (λ (b : ℕ). b == 1) high.1)

      low : (first_bit < 64) × (bit_at (slice_index ws first_word) first_bit ≡ 1)
          × ((i : ℕ) → i < first_bit → bit_at (slice_index ws first_word) i ≡ 0)
      low = bit_at-trailing_zeros w64 (slice_index ws first_word) word_above fit

      split : (w b k : ℕ) → b < 64 → k ≡ 64 * w + b → (k / 64 ≡ w) × (k % 64 ≡ b)
      split w b k lt e = (omega arith, omega arith)

      found : is_member ws (64 * first_word + first_bit) ≡ true
      found =
          let s = split first_word first_bit (64 * first_word + first_bit) low.0 refl in
          ap (λ (w : ℕ). bit_at (slice_index ws w) ((64 * first_word + first_bit) % 64) == 1) s.0
          ∙ ap (λ (b : ℕ). bit_at (slice_index ws first_word) b == 1) s.1 ∙ ap (λ (x : ℕ). x == 1) low.1

      below : (k : ℕ) → k < 64 * first_word + first_bit → is_member ws k ≡ false
      below k lt = elim (cases_lt (k / 64) first_word) [
        | inl less ↦ (let h = high.0 in zero_has_none ws k (unmarked_is_zero ws marks (k / 64) marked (omega arith) (high.2 (k / 64) less)))
        | inr le ↦
            (let l = low.0 in
            let same : k / 64 ≡ first_word = omega arith in
            let less : k % 64 < first_bit = omega arith in
            ap (λ (w : ℕ). bit_at (slice_index ws w) (k % 64) == 1) same ∙ ap (λ (x : ℕ). x == 1) (low.2 (k % 64) less))
      ]
