-- The name that a `start` of a text gives the fiber that it starts: the word behind its own.
use Rattle.std.specs.Prelude.{ℕ, ◌==◌, ◌&&◌, Bool, true, false, if◌then◌else◌, Option, Some, None, List, [], ◌∷◌}
use Rattle.fx_text.specs.Token.{after_spaces, word, after_word}
use Rattle.fx_text.specs.declared.position.Position.{Position}
use Rattle.fx_places.specs.declared.form.Form.{Form}
use Rattle.fx_places.specs.declared.form.Form.TheVariants as form
use Rattle.fx_places.specs.declared.place.FormPlace.{FormPlace}
use Rattle.fx_places.specs.Position.{line_after, column_after}

-- the bytes behind the one that stands at this position, where the first of these stands at that line and column
abbrev pub behind_from : ℕ → ℕ → Position → List ℕ → List ℕ
behind_from line column position [] = []
behind_from line column position (b ∷ bytes) =
    if (line == position.line) && (column == position.column) then bytes
    else behind_from (line_after line (b ∷ [])) (column_after column (b ∷ [])) position bytes

abbrev pub behind : List ℕ → Position → List ℕ
behind text position = behind_from 1 1 position text

-- the second word of a form that has these bytes behind its `(`
abbrev pub second_word : List ℕ → List ℕ
second_word inside = word (after_spaces (after_word (after_spaces inside)))

abbrev pub is_start : Form → Bool
is_start form.Start = true
is_start _ = false

-- the name that the form of this place gives the fiber that it starts, if it is a `start`
abbrev pub handle_of : List ℕ → FormPlace → Option (List ℕ)
handle_of text place = if is_start place.form then Some (second_word (behind text place.position)) else None
