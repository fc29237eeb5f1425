-- The escape of a text, character by character.
use Rattle.std.proofs.Common.{◌≡◌, ℕ, List, [], ◌++◌, length, IsUtf8}
use Rattle.std.specs.Prelude.{encode_utf8}
use Rattle.std.proofs.lemmas.Str.{chars_past_char}
use Rattle.std.proofs.StrCases.{chars_of_empty}
use Rattle.fx_svg.specs.Escaped.{escaped_char, escaped}

pub escaped_past_char : (bs rest : List ℕ) (c : ℕ) → IsUtf8 bs → bs ≡ encode_utf8 c ++ rest → escaped bs ≡ escaped_char c ++ escaped rest
unfolding escaped
escaped_past_char bs rest c text parts = rw (chars_past_char bs rest c text parts)

pub escaped_empty : (bs : List ℕ) → length bs ≡ 0 → escaped bs ≡ []
unfolding escaped
escaped_empty bs none = rw (chars_of_empty bs none)
