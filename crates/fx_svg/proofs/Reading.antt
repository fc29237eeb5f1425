-- What a reader makes of words.
use Rattle.std.proofs.Common.{◌≡◌, ℕ, ◌+◌, ◌/◌, ◌%◌, ◌≤◌, Bool, true, false, cond, List, [], ◌∷◌, ◌++◌, refl, ap, ◌∙◌, chars, arith, nat_lt}
use Rattle.std.specs.Prelude.{◌==◌, codes, if◌then◌else◌}
use Rattle.std.specs.Char.{encode_utf8}
use Rattle.std.specs.List.{flat_map}
use Rattle.std.proofs.lemmas.Bool.Decides.{nat_tests}
use Rattle.fx_svg.specs.Escaped.{is_unwritable, replacement, escaped_char, escaped}
use Rattle.fx_svg.specs.WellFormed.{Opened, Place, Inside, InValue, is_plain, step, behind}

pub behind-append : (xs ys : List ℕ) (p : Place) → behind p (xs ++ ys) ≡ behind (behind p xs) ys
behind-append [] ys p = refl
behind-append (x ∷ xs) ys p = behind-append xs ys (step p x)

-- words stand in an element or in a value
pub data TakesWords : Place → Type 0 where
  in_element : (outer : List (List ℕ)) → TakesWords (Inside outer)
  in_value : (o : Opened) → TakesWords (InValue o)

-- a byte that stands for itself
record IsItself (b : ℕ) : Type 0 where
  no_end : (b == 34) ≡ false
  no_reference : (b == 38) ≡ false
  no_tag : (b == 60) ≡ false
  plain : is_plain b ≡ true

itself_step : (p : Place) (b : ℕ) → TakesWords p → IsItself b → step p b ≡ p
itself_step _ b (in_element outer) h = rw (h.no_tag, h.no_reference, h.plain)
itself_step _ b (in_value o) h = rw (h.no_end, h.no_reference, h.plain, h.no_tag)

high_is_itself : (b : ℕ) → 128 ≤ b → IsItself b
high_is_itself b high = record {
  no_end = grind (arith, nat_tests);
  no_reference = grind (arith, nat_tests);
  no_tag = grind (arith, nat_tests);
  plain = grind (arith, nat_tests);
}

high_step : (p : Place) (b : ℕ) (bs : List ℕ) → TakesWords p → 128 ≤ b → behind p (b ∷ bs) ≡ behind p bs
high_step p b bs takes high = ap (λ q. behind q bs) (itself_step p b takes (high_is_itself b high))

two : (p : Place) (a b : ℕ) → TakesWords p → 128 ≤ a → 128 ≤ b → behind p (a ∷ b ∷ []) ≡ p
two p a b takes first second = high_step p a (b ∷ []) takes first ∙ high_step p b [] takes second

encoded_by : (x y z : Bool) (c : ℕ) (p : Place) → TakesWords p → (x ≡ true → IsItself c)
    → behind p (cond x (c ∷ []) (cond y ((192 + c / 64) ∷ (128 + (c % 64)) ∷ []) (cond z ((224 + c / 4096) ∷ (128 + ((c / 64) % 64)) ∷ (128 + (c % 64)) ∷ [])
    ((240 + c / 262144) ∷ (128 + ((c / 4096) % 64)) ∷ (128 + ((c / 64) % 64)) ∷ (128 + (c % 64)) ∷ [])))) ≡ p
encoded_by true y z c p takes low = itself_step p c takes (low refl)
encoded_by false true z c p takes low = two p (192 + c / 64) (128 + (c % 64)) takes (omega arith) (omega arith)
encoded_by false false true c p takes low =
    let last = two p (128 + ((c / 64) % 64)) (128 + (c % 64)) takes (omega arith) (omega arith) in
    high_step p (224 + c / 4096) ((128 + ((c / 64) % 64)) ∷ (128 + (c % 64)) ∷ []) takes (omega arith) ∙ last
encoded_by false false false c p takes low =
    behind-append ((240 + c / 262144) ∷ (128 + ((c / 4096) % 64)) ∷ []) ((128 + ((c / 64) % 64)) ∷ (128 + (c % 64)) ∷ []) p
    ∙ ap (λ q. behind q ((128 + ((c / 64) % 64)) ∷ (128 + (c % 64)) ∷ []))
    (two p (240 + c / 262144) (128 + ((c / 4096) % 64)) takes (omega arith) (omega arith))
    ∙ two p (128 + ((c / 64) % 64)) (128 + (c % 64)) takes (omega arith) (omega arith)

-- a character that has no name and is writable
encoded : (c : ℕ) (p : Place) → TakesWords p → (nat_lt c 128 ≡ true → IsItself c) → behind p (encode_utf8 c) ≡ p
unfolding encode_utf8
encoded c p takes low = encoded_by _ _ _ c p takes low

-- a choice of two texts, each of which leaves the reader where it was
chosen : (b : Bool) (p : Place) (xs ys : List ℕ) → behind p xs ≡ p → (b ≡ false → behind p ys ≡ p) → behind p (if b then xs else ys) ≡ p
chosen true p xs ys first second = first
chosen false p xs ys first second = second refl

named : (p : Place) → TakesWords p
    → (behind p (codes "&amp;") ≡ p) × (behind p (codes "&lt;") ≡ p) × (behind p (codes "&gt;") ≡ p) × (behind p (codes "&quot;") ≡ p)
    × (behind p (codes "&#9;") ≡ p) × (behind p (codes "&#10;") ≡ p) × (behind p (codes "&#13;") ≡ p)
named _ (in_element outer) = (refl, refl, refl, refl, refl, refl, refl)
named _ (in_value o) = (refl, refl, refl, refl, refl, refl, refl)

char : (c : ℕ) (p : Place) → TakesWords p → behind p (escaped_char c) ≡ p
char c p takes =
    let names = named p takes in
    chosen (c == 38) p _ _ names.0 (λ amp. chosen (c == 60) p _ _ names.1 (λ lt. chosen (c == 62) p _ _ names.2 (λ gt. chosen (c == 34) p _ _ names.3 (λ quot.
    chosen (c == 9) p _ _ names.4 (λ tab. chosen (c == 10) p _ _ names.5 (λ line. chosen (c == 13) p _ _ names.6 (λ back.
    chosen (is_unwritable c) p _ _ (encoded replacement p takes (λ low. high_is_itself replacement (omega arith)))
    (λ writable. encoded c p takes (λ low. record { no_end = quot; no_reference = amp; no_tag = lt; plain = grind (arith, nat_tests, gt, writable) })))))))))

chars_read : (cs : List ℕ) (p : Place) → TakesWords p → behind p (flat_map escaped_char cs) ≡ p
chars_read [] p takes = refl
chars_read (c ∷ cs) p takes =
    behind-append (escaped_char c) (flat_map escaped_char cs) p
    ∙ ap (λ q. behind q (flat_map escaped_char cs)) (char c p takes) ∙ chars_read cs p takes

-- words leave the reader where it was
pub words_read : (bs : List ℕ) (p : Place) → TakesWords p → behind p (escaped bs) ≡ p
unfolding escaped
words_read bs p takes = chars_read (chars bs) p takes
