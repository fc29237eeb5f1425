-- A word is text, since it has letters and digits alone.
use Rattle.std.proofs.Common.{◌≡◌, ℕ, suc, ◌<◌, Bool, true, false, List, [], ◌∷◌, arith, refl}
use Rattle.std.specs.List.{prefix_len}
use Rattle.std.specs.Str.{IsAscii, IsUtf8}
use Rattle.std.proofs.lemmas.Bool.Decides.{nat_tests}
use Rattle.std.proofs.lemmas.Str.{IsUtf8-from_ascii}
use Rattle.std.proofs.lemmas.Str.Ascii.{IsAscii-nil, IsAscii-cons}
use Rattle.fx_text.specs.Token.{is_letter_or_digit, word}

below : (b : ℕ) → is_letter_or_digit b ≡ true → b < 128
below b e = grind (arith, nat_tests)

ascii_by : (t : Bool) (b : ℕ) (bytes : List ℕ) → is_letter_or_digit b ≡ t → IsAscii (word bytes) → IsAscii (word (b ∷ bytes))
ascii_by true b bytes e more =
    let n : prefix_len is_letter_or_digit (b ∷ bytes) ≡ suc (prefix_len is_letter_or_digit bytes) = rw e (omega arith) in
    rw n (IsAscii-cons b (word bytes) (below b e) more)
ascii_by false b bytes e more = rw e IsAscii-nil

is_ascii : (bytes : List ℕ) → IsAscii (word bytes)
is_ascii [] = IsAscii-nil
is_ascii (b ∷ bytes) = ascii_by (is_letter_or_digit b) b bytes refl (is_ascii bytes)

pub word_is_text : (bytes : List ℕ) → IsUtf8 (word bytes)
word_is_text bytes = IsUtf8-from_ascii (word bytes) (is_ascii bytes)
