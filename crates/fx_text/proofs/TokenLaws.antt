-- The next token, and what is left after it.
use Rattle.std.proofs.Common.{◌≡◌, ℕ, suc, ◌+◌, ◌<◌, ◌≤◌, Bool, true, false, cond, ◌&&◌, ◌||◌, ◌==◌, ◌^◌, nat_lt, List, [], ◌∷◌, length, refl, sym}
use Rattle.std.proofs.Common.{subst, arith}
use Rattle.std.specs.List.{list_all, prefix_len}
use Rattle.std.specs.Str.{IsAscii}
use Rattle.std.proofs.lemmas.Bool.Decides.{nat_tests}
use Rattle.std.proofs.lemmas.List.{length-drop}
use Rattle.std.proofs.lemmas.Str.Ascii.{IsAscii-nil, IsAscii-cons}
use Rattle.fx_text.specs.Token.{
  Token,
  Open,
  Close,
  Number,
  Name,
  Stray,
  Misnumber,
  End,
  Lexeme,
  is_space,
  is_digit,
  is_letter_or_digit,
  value_after,
  number,
  after_spaces,
  word,
  after_word,
  front,
  next,
}

after_spaces_le : (bytes : List ℕ) → length (after_spaces bytes) ≤ length bytes
after_spaces_le [] = omega arith
after_spaces_le (b ∷ bytes) = by_test (is_space b) (after_spaces_le bytes)
  where
    by_test : (space : Bool) → length (after_spaces bytes) ≤ length bytes → length (cond space (after_spaces bytes) (b ∷ bytes)) ≤ length (b ∷ bytes)
    by_test true h = omega arith
    by_test false h = omega arith

pub digit_too : (b : ℕ) → is_digit b ≡ true → is_letter_or_digit b ≡ true
digit_too b e = rw e (or_true _)
  where
    or_true : (p : Bool) → (p || true) ≡ true
    or_true true = refl
    or_true false = refl

module _ (b : ℕ) (bytes : List ℕ) where
  after_word_le : is_letter_or_digit b ≡ true → length (after_word (b ∷ bytes)) ≤ length bytes
  after_word_le e =
      let n : prefix_len is_letter_or_digit (b ∷ bytes) ≡ 1 + prefix_len is_letter_or_digit bytes = rw e refl in
      rw n (omega (arith, length-drop (1 + prefix_len is_letter_or_digit bytes) (b ∷ bytes)))

  -- what is left after a token is shorter
  front_le : length (front (b ∷ bytes)).rest ≤ length bytes
  front_le = by_tests (length (b ∷ bytes)) (b == 40) (b == 41) (is_digit b) (is_letter_or_digit b) (digit_too b) after_word_le
    where
      by_tests : (from : ℕ) (opening closing digit letter : Bool) → (digit ≡ true → letter ≡ true)
          → (letter ≡ true → length (after_word (b ∷ bytes)) ≤ length bytes)
          → length (cond {A = Lexeme} opening (record { token = Open; from = from; rest = bytes })
          (cond {A = Lexeme} closing (record { token = Close; from = from; rest = bytes })
          (cond {A = Lexeme} digit (record { token = number (word (b ∷ bytes)); from = from; rest = after_word (b ∷ bytes) })
          (cond {A = Lexeme} letter (record { token = Name (word (b ∷ bytes)); from = from; rest = after_word (b ∷ bytes) }) (record {
            token = Stray;
            from = from;
            rest = bytes;
          }))))).rest ≤ length bytes
      by_tests from true c d l too h = omega arith
      by_tests from false true d l too h = omega arith
      by_tests from false false true l too h = h (too refl)
      by_tests from false false false true too h = h refl
      by_tests from false false false false too h = omega arith

pub next_le : (text : List ℕ) → length (next text).rest ≤ length text
unfolding next
next_le text = by_front (after_spaces text) (after_spaces_le text)
  where
    by_front : (bytes : List ℕ) → length bytes ≤ length text → length (front bytes).rest ≤ length text
    by_front [] h = omega arith
    by_front (b ∷ bytes) h = let g = front_le b bytes in omega arith

pub next_shorter : (text : List ℕ) → ((next text).token ≡ End → ⊥) → length (next text).rest < length text
unfolding next
next_shorter text some = by_front (after_spaces text) (after_spaces_le text) some
  where
    by_front : (bytes : List ℕ) → length bytes ≤ length text → ((front bytes).token ≡ End → ⊥) → length (front bytes).rest < length text
    by_front [] h some = absurd (some refl)
    by_front (b ∷ bytes) h some = let g = front_le b bytes in omega arith

-- the token in front, by what its first byte is
abbrev lexeme_by : ℕ → List ℕ → Bool → Bool → Bool → Bool → Lexeme
lexeme_by b bytes opening closing digit letter =
    let from = length (b ∷ bytes) in
    cond {A = Lexeme} opening (record { token = Open; from = from; rest = bytes })
    (cond {A = Lexeme} closing (record { token = Close; from = from; rest = bytes })
    (cond {A = Lexeme} digit (record { token = number (word (b ∷ bytes)); from = from; rest = after_word (b ∷ bytes) })
    (cond {A = Lexeme} letter (record { token = Name (word (b ∷ bytes)); from = from; rest = after_word (b ∷ bytes) }) (record {
      token = Stray;
      from = from;
      rest = bytes;
    }))))

-- a word that begins with a digit is no other token
abbrev NotOfDigits : Token → Type 0
NotOfDigits (Number n) = ⊥
NotOfDigits Misnumber = ⊥
NotOfDigits _ = Unit {0}

no_number : (digits : List ℕ) (k : Token) → NotOfDigits k → number digits ≡ k → ⊥
no_number digits k other e = by_test (list_all is_digit digits && nat_lt (value_after 0 digits) (2 ^ 64)) e
  where
    by_test : (n : Bool) → cond {A = Token} n (Number (value_after 0 digits)) Misnumber ≡ k → ⊥
    by_test true e = subst (λ (j : Token). NotOfDigits j) (sym e) other
    by_test false e = subst (λ (j : Token). NotOfDigits j) (sym e) other

-- a `(` is one byte
pub open_from : (text : List ℕ) → (next text).token ≡ Open → length (next text).rest + 1 ≡ (next text).from
unfolding next
open_from text is = by_front (after_spaces text) is
  where
    by_front : (bytes : List ℕ) → (front bytes).token ≡ Open → length (front bytes).rest + 1 ≡ (front bytes).from
    by_front [] is = absurd cc
    by_front (b ∷ bytes) is = by_tests (b == 40) (b == 41) (is_digit b) (is_letter_or_digit b) is
      where
        by_tests : (opening closing digit letter : Bool) → (lexeme_by b bytes opening closing digit letter).token ≡ Open
            → length (lexeme_by b bytes opening closing digit letter).rest + 1 ≡ (lexeme_by b bytes opening closing digit letter).from
        by_tests true c d l is = omega arith
        by_tests false true d l is = absurd cc
        by_tests false false true l is = absurd (no_number (word (b ∷ bytes)) Open tt is)
        by_tests false false false true is = absurd cc
        by_tests false false false false is = absurd cc

-- a name is of bytes below 128
letter_ascii : (b : ℕ) → is_letter_or_digit b ≡ true → b < 128
letter_ascii b e = grind (arith, nat_tests)

word_ascii : (bytes : List ℕ) → IsAscii (word bytes)
word_ascii [] = IsAscii-nil
word_ascii (b ∷ bytes) = by_test (is_letter_or_digit b) refl (word_ascii bytes)
  where
    by_test : (t : Bool) → is_letter_or_digit b ≡ t → IsAscii (word bytes) → IsAscii (word (b ∷ bytes))
    by_test true e more =
        let n : prefix_len is_letter_or_digit (b ∷ bytes) ≡ suc (prefix_len is_letter_or_digit bytes) = rw e (omega arith) in
        rw n (IsAscii-cons b (word bytes) (letter_ascii b e) more)
    by_test false e more = rw e IsAscii-nil

pub name_ascii : (text x : List ℕ) → (next text).token ≡ Name x → IsAscii x
unfolding next
name_ascii text x is = by_front (after_spaces text) is
  where
    by_front : (bytes : List ℕ) → (front bytes).token ≡ Name x → IsAscii x
    by_front [] is = absurd cc
    by_front (b ∷ bytes) is = by_tests (b == 40) (b == 41) (is_digit b) (is_letter_or_digit b) is
      where
        by_tests : (opening closing digit letter : Bool) → (lexeme_by b bytes opening closing digit letter).token ≡ Name x → IsAscii x
        by_tests true c d l is = absurd cc
        by_tests false true d l is = absurd cc
        by_tests false false true l is = absurd (no_number (word (b ∷ bytes)) (Name x) tt is)
        by_tests false false false true is = let same : word (b ∷ bytes) ≡ x = cc in subst IsAscii same (word_ascii (b ∷ bytes))
        by_tests false false false false is = absurd cc
