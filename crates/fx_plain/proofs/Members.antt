-- The members of a set after a change of one word, and of words that are 0.
use Rattle.std.proofs.Common.{◌≡◌, ℕ, ◌/◌, ◌%◌, ◌<◌, true, false, List, length, set, replicate, ◌∙◌, ap, arith, inl, inr}
use Rattle.std.specs.Prelude.{slice_index}
use Rattle.std.proofs.lemmas.Bool.{cases_lt}
use Rattle.std.proofs.lemmas.List.{get_or_past, get_or-replicate}
use Rattle.fx_term.specs.Maps.{with_at}
use Rattle.fx_term.proofs.BitLaws.{with_bit, without_bit, sets_bit, clears_bit, zero_has_none}
use Rattle.fx_plain.specs.NumberSet.{is_member}

module _ (ws : List ℕ) (n : ℕ) (long : length ws ≡ 64) (lt : n < 4096) where
  abbrev word : ℕ
  word = slice_index ws (n / 64)

  pub inserts : (k : ℕ) → is_member (set ws (n / 64) (with_bit word (n % 64))) k ≡ with_at n true (is_member ws) k
  inserts = sets_bit ws n (omega arith)

  pub removes : (k : ℕ) → is_member (set ws (n / 64) (without_bit word (n % 64))) k ≡ with_at n false (is_member ws) k
  removes = clears_bit ws n (omega arith)

pub zero_at : (i : ℕ) → slice_index (replicate 64 0) i ≡ 0
zero_at i = elim (cases_lt i 64) [ inl lt ↦ get_or-replicate 64 i 0 0 lt | inr le ↦ get_or_past (replicate 64 0) i 0 le ]

pub zeros_have_none : (ws : List ℕ) → ws ≡ replicate 64 0 → (n : ℕ) → is_member ws n ≡ false
zeros_have_none ws e n = zero_has_none ws n (ap (λ (xs : List ℕ). slice_index xs (n / 64)) e ∙ zero_at (n / 64))
