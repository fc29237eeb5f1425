-- The tokens of a text.
use Rattle.std.specs.Prelude.{ℕ, ◌+◌, ◌-◌, ◌*◌, ◌^◌, Bool, ◌&&◌, ◌||◌, ◌==◌, nat_lt, nat_le, if◌then◌else◌, List, [], ◌∷◌, length, take, drop}
use Rattle.std.specs.List.{list_all, prefix_len}

-- space, tab, LF and CR separate tokens
abbrev pub is_space : ℕ → Bool
is_space b = (b == 32) || (b == 9) || (b == 10) || (b == 13)

abbrev pub is_digit : ℕ → Bool
is_digit b = nat_le 48 b && nat_le b 57

-- the letters a to z and the digits
abbrev pub is_letter_or_digit : ℕ → Bool
is_letter_or_digit b = (nat_le 97 b && nat_le b 122) || is_digit b

-- a parenthesis, a number or a name; or what is none: another byte, a word that begins with a digit and is no number, the end of the text
pub data Token : Type 0 where
  Open : Token
  Close : Token
  Number : ℕ → Token
  Name : List ℕ → Token
  Stray : Token
  Misnumber : Token
  End : Token

-- the number that digits write after those of n
abbrev pub value_after : ℕ → List ℕ → ℕ
value_after n [] = n
value_after n (d ∷ ds) = value_after (10 * n + (d - 48)) ds

-- a word that begins with a digit
abbrev pub number : List ℕ → Token
number word = if list_all is_digit word && nat_lt (value_after 0 word) (2 ^ 64) then Number (value_after 0 word) else Misnumber

-- what is left after the spaces
abbrev pub after_spaces : List ℕ → List ℕ
after_spaces [] = []
after_spaces (b ∷ bytes) = if is_space b then after_spaces bytes else b ∷ bytes

-- the longest run of letters and digits, and what is left after it
abbrev pub word : List ℕ → List ℕ
word bytes = take (prefix_len is_letter_or_digit bytes) bytes

abbrev pub after_word : List ℕ → List ℕ
after_word bytes = drop (prefix_len is_letter_or_digit bytes) bytes

-- a token, how many bytes stand from it to the end of the text, and what is left after it
pub record Lexeme : Type 0 where
  pub token : Token
  pub from : ℕ
  pub rest : List ℕ

-- the token at the front
abbrev pub front : List ℕ → Lexeme
front [] = record { token = End; from = 0; rest = [] }
front (b ∷ bytes) =
    let from = length (b ∷ bytes) in
    if b == 40 then record { token = Open; from = from; rest = bytes }
    else if b == 41 then record { token = Close; from = from; rest = bytes }
    else if is_digit b then record { token = number (word (b ∷ bytes)); from = from; rest = after_word (b ∷ bytes) }
    else if is_letter_or_digit b then record { token = Name (word (b ∷ bytes)); from = from; rest = after_word (b ∷ bytes) }
    else record { token = Stray; from = from; rest = bytes }

-- the next token
unfoldable pub next : List ℕ → Lexeme
next bytes = front (after_spaces bytes)
