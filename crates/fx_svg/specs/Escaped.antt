-- Words as XML writes them.
use Rattle.std.specs.Prelude.{ℕ, ◌==◌, nat_lt, Bool, ◌||◌, List, codes, chars, encode_utf8, if◌then◌else◌}
use Rattle.std.specs.List.{flat_map}

-- a character that no XML text may have
abbrev pub is_unwritable : ℕ → Bool
is_unwritable c = nat_lt c 32 || c == 0xFFFE || c == 0xFFFF

-- what stands for such a character
abbrev pub replacement : ℕ
replacement = 0xFFFD

-- a character that has no name is written as it is, if it may be
abbrev pub unnamed_char : ℕ → List ℕ
unnamed_char c = if is_unwritable c then encode_utf8 replacement else encode_utf8 c

-- &, <, >, ", the tab, and the two ends of lines have names
abbrev pub escaped_char : ℕ → List ℕ
escaped_char c =
    if c == 38 then codes "&amp;"
    else if c == 60 then codes "&lt;"
    else if c == 62 then codes "&gt;"
    else if c == 34 then codes "&quot;"
    else if c == 9 then codes "&#9;"
    else if c == 10 then codes "&#10;"
    else if c == 13 then codes "&#13;"
    else unnamed_char c

unfoldable pub escaped : List ℕ → List ℕ
escaped words = flat_map escaped_char (chars words)
