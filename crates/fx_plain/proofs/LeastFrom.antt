-- The least member of a set from a number on: in its word, or in the first marked word after that.
use Rattle.std.proofs.Common.{◌≡◌, ℕ, ◌+◌, ◌-◌, ◌*◌, ◌/◌, ◌%◌, ◌^◌, ◌<◌, ◌≤◌, false, Option, Some, None, List, length, sym, ◌∙◌, ap, arith, inl, inr, w64}
use Rattle.std.specs.Prelude.{◌==◌, slice_index, IfSome}
use Rattle.std.specs.Int.{bit_at, trailing_zeros}
use Rattle.std.proofs.Math.Nat.{div-div-eq-div-mul, div-le_self}
use Rattle.std.proofs.lemmas.Bool.{cases_lt, cases_eq, ltb-true}
use Rattle.std.proofs.lemmas.List.{get_or_past}
use Rattle.std.proofs.lemmas.Nat.{pow-add}
use Rattle.std.proofs.lemmas.Nat.Bits.{bit_at-zero, bit_at_above, bit_at-trailing_zeros}
use Rattle.fx_plain.specs.NumberSet.{is_member, AreMarked, IsLeastFrom}
use Rattle.fx_term.proofs.BitLaws.{zero_has_none}
use Rattle.fx_plain.proofs.Marks.{unmarked_is_zero}

-- a bit of a word that was shifted
bit_at_shifted : (n k i : ℕ) → bit_at (n / 2 ^ k) i ≡ bit_at n (k + i)
bit_at_shifted n k i = ap (λ (x : ℕ). x % 2) (div-div-eq-div-mul n (2 ^ k) (2 ^ i)) ∙ ap (λ (d : ℕ). n / d % 2) (sym (pow-add 2 k i))

bit_from : (n k i : ℕ) → k ≤ i → bit_at n i ≡ bit_at (n / 2 ^ k) (i - k)
bit_from n k i le = let e : i ≡ k + (i - k) = omega arith in ap (bit_at n) e ∙ sym (bit_at_shifted n k (i - k))

-- a word that is 0 once it is shifted has no bit from there on
none_from : (n k i : ℕ) → n / 2 ^ k ≡ 0 → k ≤ i → bit_at n i ≡ 0
none_from n k i zero le = bit_from n k i le ∙ ap (λ (x : ℕ). bit_at x (i - k)) zero ∙ bit_at-zero (i - k)

pub record IsFirstBit (n k t : ℕ) : Type 0 where
  pub within : k + t < 64
  pub set : bit_at n (k + t) ≡ 1
  pub none : (i : ℕ) → k ≤ i → i < k + t → bit_at n i ≡ 0

-- else its lowest bit is the first one from there on
first_from : (n k : ℕ) → n < 2 ^ 64 → 0 < n / 2 ^ k → IsFirstBit n k (trailing_zeros w64 (n / 2 ^ k))
first_from n k fits some = record { within = within; set = set; none = none }
  where
    shifted : ℕ
    shifted = n / 2 ^ k

    place : ℕ
    place = trailing_zeros w64 shifted

    low : (place < 64) × (bit_at shifted place ≡ 1) × ((i : ℕ) → i < place → bit_at shifted i ≡ 0)
    low = let le = div-le_self n (2 ^ k) in bit_at-trailing_zeros w64 shifted some (omega arith)

    set : bit_at n (k + place) ≡ 1
    set = sym (bit_at_shifted n k place) ∙ low.1

    within : k + place < 64
    within = elim (cases_lt (k + place) 64) [ inl lt ↦ lt | inr le ↦ absurd (let s = set in let z = bit_at_above n 64 (k + place) fits le in omega arith) ]

    none : (i : ℕ) → k ≤ i → i < k + place → bit_at n i ≡ 0
    none i le lt = bit_from n k i le ∙ low.2 (i - k) (omega arith)

-- the first bit of a word from a place on
module _ (n k : ℕ) (fits : n < 2 ^ 64) where
  pub none_past : 64 ≤ k → IsLeastFrom k (λ b. bit_at n b == 1) None
  none_past past i le = ap (λ (x : ℕ). x == 1) (bit_at_above n 64 i fits (omega arith))

  pub none_left : n / 2 ^ k ≡ 0 → IsLeastFrom k (λ b. bit_at n b == 1) None
  none_left zero i le = ap (λ (x : ℕ). x == 1) (none_from n k i zero le)

  pub first_left : (n / 2 ^ k ≡ 0 → ⊥) → IsLeastFrom k (λ b. bit_at n b == 1) (Some (k + trailing_zeros w64 (n / 2 ^ k)))
  first_left some =
      let first = first_from n k fits (omega arith) in
      (omega arith, ap (λ (x : ℕ). x == 1) first.set, λ i le lt. ap (λ (x : ℕ). x == 1) (first.none i le lt))

  pub first_within : (n / 2 ^ k ≡ 0 → ⊥) → k + trailing_zeros w64 (n / 2 ^ k) < 64
  first_within some = let first = first_from n k fits (omega arith) in first.within

module _ (ws : List ℕ) where
  is_bit : (n w b x : ℕ) → n / 64 ≡ w → n % 64 ≡ b → bit_at (slice_index ws w) b ≡ x → is_member ws n ≡ (x == 1)
  is_bit n w b x e f g =
      ap (λ (v : ℕ). bit_at (slice_index ws v) (n % 64) == 1) e ∙ ap (λ (c : ℕ). bit_at (slice_index ws w) c == 1) f ∙ ap (λ (y : ℕ). y == 1) g

  module _ (long : length ws ≡ 64) where
    pub past_has_none : (n : ℕ) → 4096 ≤ n → is_member ws n ≡ false
    past_has_none n le = zero_has_none ws n (get_or_past ws (n / 64) 0 (omega arith))

    -- so what is found from a number on is a number that a set can have
    pub found_is_few : (from : ℕ) (found : Option ℕ) → IsLeastFrom from (is_member ws) found → IfSome found (λ n. n < 4096)
    found_is_few from None h = tt
    found_is_few from (Some n) h = elim (cases_lt n 4096) [ inl lt ↦ lt | inr le ↦ absurd (let none = past_has_none n le in let some = h.1 in cc) ]

    module _ (from w : ℕ) (is : w ≡ slice_index ws (from / 64)) where
      abbrev word : ℕ
      word = from / 64

      abbrev bit : ℕ
      bit = from % 64

      -- a bit of that word
      bit_is : (b x : ℕ) → bit_at w b ≡ x → bit_at (slice_index ws word) b ≡ x
      bit_is b x e = ap (λ (y : ℕ). bit_at y b) (sym is) ∙ e

      -- the word of that number has no bit from there on
      abbrev pub HasNoMore : Type 0
      HasNoMore = w / 2 ^ bit ≡ 0

      none_in_word : HasNoMore → (k : ℕ) → k / 64 ≡ word → from ≤ k → is_member ws k ≡ false
      none_in_word zero k same le = is_bit k word (k % 64) 0 same (omega arith) (bit_is (k % 64) 0 (none_from w bit (k % 64) zero (omega arith)))

      pub in_word : w < 2 ^ 64 → (HasNoMore → ⊥) → IsLeastFrom from (is_member ws) (Some (from + trailing_zeros w64 (w / 2 ^ bit)))
      in_word fits some =
          let place = trailing_zeros w64 (w / 2 ^ bit) in
          let first = first_from w bit fits (omega arith) in
          let within = first.within in (
            omega arith,
            is_bit (from + place) word (bit + place) 1 (omega arith) (omega arith) (bit_is (bit + place) 1 first.set),
            λ k le lt. let same : k / 64 ≡ word = omega arith in
                is_bit k word (k % 64) 0 same (omega arith) (bit_is (k % 64) 0 (first.none (k % 64) (omega arith) (omega arith))),
          )

      pub in_word_few : w < 2 ^ 64 → (HasNoMore → ⊥) → from + trailing_zeros w64 (w / 2 ^ bit) < 4096
      in_word_few fits some = found_is_few from (Some (from + trailing_zeros w64 (w / 2 ^ bit))) (in_word fits some)

      module _ (marks : ℕ) (marked : AreMarked marks ws) (no_more : HasNoMore) where
        abbrev later : ℕ
        later = marks / 2 ^ word / 2

        later_is : later ≡ marks / 2 ^ (word + 1)
        later_is = div-div-eq-div-mul marks (2 ^ word) 2 ∙ ap (λ (d : ℕ). marks / d) (sym (pow-add 2 word 1))

        none_unmarked : (k : ℕ) → k / 64 < 64 → bit_at marks (k / 64) ≡ 0 → is_member ws k ≡ false
        none_unmarked k lt e = zero_has_none ws k (unmarked_is_zero ws marks (k / 64) marked lt e)

        pub none_later : later ≡ 0 → IsLeastFrom from (is_member ws) None
        none_later zero k le = elim (cases_eq (k / 64) word) [
          | inl same ↦ none_in_word no_more k same le
          | inr apart ↦ elim (cases_lt (k / 64) 64) [
            | inl lt ↦ none_unmarked k lt (none_from marks (word + 1) (k / 64) (sym later_is ∙ zero) (omega arith))
            | inr past ↦ past_has_none k (omega arith)
          ]
        ]

        module _ (fits : marks < 2 ^ 64) (some : later ≡ 0 → ⊥) where
          abbrev next : ℕ
          next = word + 1 + trailing_zeros w64 later

          first_mark : IsFirstBit marks (word + 1) (trailing_zeros w64 later)
          first_mark =
              let e = later_is in
              rw later_is (first_from marks (word + 1) fits (omega arith))

          pub next_within : next < 64
          next_within = first_mark.within

          pub in_next : slice_index ws next < 2 ^ 64 → IsLeastFrom from (is_member ws) (Some (64 * next + trailing_zeros w64 (slice_index ws next)))
          in_next fit =
              let first = first_mark in
              let within = first.within in
              let place = trailing_zeros w64 (slice_index ws next) in
              let above : 0 < slice_index ws next = ltb-true 0 (slice_index ws next) (sym (marked next within) ∙ ap (λ (b : ℕ). b == 1) first.set) in
              let low = bit_at-trailing_zeros w64 (slice_index ws next) above fit in
              let less = low.0 in (
                omega arith,
                is_bit (64 * next + place) next place 1 (omega arith) (omega arith) low.1,
                λ k le lt. elim (cases_eq (k / 64) word) [
                  | inl same ↦ none_in_word no_more k same le
                  | inr apart ↦ elim (cases_lt (k / 64) next) [
                    | inl before ↦ none_unmarked k (omega arith) (first.none (k / 64) (omega arith) before)
                    | inr there ↦ (let same : k / 64 ≡ next = omega arith in is_bit k next (k % 64) 0 same (omega arith) (low.2 (k % 64) (omega arith)))
                  ]
                ],
              )

          pub in_next_few : slice_index ws next < 2 ^ 64 → 64 * next + trailing_zeros w64 (slice_index ws next) < 4096
          in_next_few fit = found_is_few from (Some (64 * next + trailing_zeros w64 (slice_index ws next))) (in_next fit)
