-- Marks that are kept in bits.
use Rattle.std.proofs.Common.{◌≡◌, ℕ, ◌+◌, ◌*◌, ◌^◌, ◌/◌, ◌%◌, ◌<◌, ◌≤◌, Bool, true, false, List, length, min, max, get_or, set, replicate, sym, ◌∙◌, ap}
use Rattle.std.proofs.Common.{subst, arith, inl, inr, bit_and, get_or-set_same, get_or-set_other}
use Rattle.std.specs.Prelude.{◌==◌, slice_index}
use Rattle.std.specs.Int.{bit_at}
use Rattle.std.proofs.lemmas.Bool.{cases_eq, cases_lt}
use Rattle.std.proofs.lemmas.List.{ext_get_or, get_or_past, get_or_default, get_or-replicate, length-replicate, length-set}
use Rattle.std.proofs.lemmas.List.FromFn.{length-map-range_with_len, get_or-map-range_with_len}
use Rattle.std.proofs.lemmas.Nat.Bits.{shr_and_one}
use Rattle.fx_term.specs.Bits.{has_bit}
use Rattle.fx_term.proofs.BitLaws.{with_bit, sets_bit, zero_has_none}
use Rattle.fx_term.proofs.MapLaws.{at_that, at_other}
use Rattle.fx_port.specs.Marks.{is_marked, marks_of, IsEndOf}
use Rattle.fx_port.proofs.MarkLaws.{end_after, none_end}

pub bits_long : (n : ℕ) (ws : List ℕ) → length (marks_of n ws) ≡ n
bits_long n ws = length-map-range_with_len (has_bit ws) 0 n

pub bit_read : (n : ℕ) (ws : List ℕ) (f : ℕ) → f < n → is_marked (marks_of n ws) f ≡ has_bit ws f
bit_read n ws f lt = get_or-map-range_with_len (has_bit ws) 0 n f f false lt (omega arith)

pub bit_past : (n : ℕ) (ws : List ℕ) (f : ℕ) → n ≤ f → is_marked (marks_of n ws) f ≡ false
bit_past n ws f le = let long = bits_long n ws in get_or_past (marks_of n ws) f false (omega (arith, le, long))

-- words of which each is 0 mark none
zero_at : (m i : ℕ) → slice_index (replicate m 0) i ≡ 0
zero_at m i = elim (cases_lt i m) [
  | inl lt ↦ get_or-replicate m i 0 0 lt
  | inr le ↦ (let long = length-replicate {A = ℕ} m 0 in get_or_past (replicate m 0) i 0 (omega (arith, le, long)))
]

no_bits : (n m : ℕ) → marks_of n (replicate m 0) ≡ replicate n false
no_bits n m =
    let long = bits_long n (replicate m 0) in
    ext_get_or false (marks_of n (replicate m 0)) (replicate n false) (long ∙ sym (length-replicate n false))
    (λ i below. let lt : i < n = omega (arith, below, long) in
    bit_read n (replicate m 0) i lt ∙ zero_has_none (replicate m 0) i (zero_at m (i / 64)) ∙ sym (get_or-replicate n i false false lt))

-- a number is marked by its bit
module _ (n : ℕ) (ws : List ℕ) (k : ℕ) (lt : k < n) (here : k / 64 < length ws) where
  abbrev words' : List ℕ
  words' = set ws (k / 64) (with_bit (slice_index ws (k / 64)) (k % 64))

  abbrev marks' : List Bool
  marks' = set (marks_of n ws) k true

  read_there : (i : ℕ) → i < n → is_marked (marks_of n words') i ≡ is_marked marks' i
  read_there i small =
      bit_read n words' i small ∙ sets_bit ws k here i
      ∙ elim (cases_eq i k) [
        | inl e ↦ (let long = bits_long n ws in at_that k true (has_bit ws) i e
            ∙ sym (ap (is_marked marks') e ∙ get_or-set_same (marks_of n ws) k true false (omega (arith, lt, long))))
        | inr ne ↦ at_other k true (has_bit ws) i ne ∙ sym (get_or-set_other (marks_of n ws) k i true false ne ∙ bit_read n ws i small)
      ]

  bit_marks : marks_of n words' ≡ marks'
  bit_marks =
      let long = bits_long n words' in
      ext_get_or false (marks_of n words') marks' (long ∙ sym (length-set (marks_of n ws) k true ∙ bits_long n ws))
      (λ i below. read_there i (omega (arith, below, long)))

-- the word that is read at the place of a number
module _ (n : ℕ) (ws : List ℕ) (f w : ℕ) (lt : f < n) (enough : n ≤ 64 * length ws) (is : w ≡ get_or ws (f / 64) w) where
  word_is : w ≡ slice_index ws (f / 64)
  word_is = is ∙ get_or_default ws (f / 64) w 0 (omega arith)

  pub bit_told : (bit_and (w / 2 ^ (f % 64)) 1 == 1) ≡ is_marked (marks_of n ws) f
  bit_told =
      ap (λ (b : ℕ). b == 1) (shr_and_one w (f % 64)) ∙ ap (λ (x : ℕ). bit_at x (f % 64) == 1) word_is ∙ sym (bit_read n ws f lt)

  pub bit_added : marks_of n (set ws (f / 64) (with_bit w (f % 64))) ≡ set (marks_of n ws) f true
  bit_added = ap (λ (x : ℕ). marks_of n (set ws (f / 64) (with_bit x (f % 64)))) word_is ∙ bit_marks n ws f lt (omega arith)

  pub end_added : (end : ℕ) → IsEndOf end (marks_of n ws) → IsEndOf (max end (f + 1)) (marks_of n (set ws (f / 64) (with_bit w (f % 64))))
  end_added end h =
      let long = bits_long n ws in
      subst (λ (ms : List Bool). IsEndOf (max end (f + 1)) ms) (sym bit_added) (end_after (marks_of n ws) f end (omega (arith, lt, long)) h)

-- as many words of 0 as there is need for
module _ (n m : ℕ) (ws : List ℕ) (is : ws ≡ replicate m 0) where
  pub enough_words : m ≡ n / 64 + min 1 (n % 64) → n ≤ 64 * length ws
  enough_words few = let long = ap length is ∙ length-replicate {A = ℕ} m 0 in omega (arith, long, few)

  pub none_set : marks_of n ws ≡ replicate n false
  none_set = ap (marks_of n) is ∙ no_bits n m

  pub ends_at_once : IsEndOf 0 (marks_of n ws)
  ends_at_once = subst (λ (ms : List Bool). IsEndOf 0 ms) (sym none_set) (none_end n)
