use Rattle.std.proofs.Common.{◌≡◌, ◌++◌, IsUtf8, string_bytes}
use Rattle.std.specs.Str.Iter.{chars_rest}
use Rattle.fx_svg.specs.Escaped.{escaped}
use Rattle.fx_svg.proofs.escape.push_words.Given as goal

-- what is written so far, and the other characters, are the words
abbrev pub invariant-loop-c : goal.invariant-loop-c
invariant-loop-c l =
    IsUtf8 (chars_rest l.c-iterator) × (string_bytes l.text ++ escaped (chars_rest l.c-iterator) ≡ string_bytes l.fn.text ++ escaped l.fn.words)
