-- What stands behind the `(` of a place is found by its position.
use Rattle.std.proofs.Common.{◌≡◌, ◌==◌, ◌&&◌, ℕ, suc, ◌+◌, ◌≤◌, Bool, true, false, Some, List, [], ◌∷◌, ◌++◌, length, refl, sym, ◌∙◌, ap}
use Rattle.std.proofs.Common.{if◌then◌else◌, arith, inl, inr}
use Rattle.std.proofs.lemmas.Bool.{cases_eq, eq-eqb, ne_eqb}
use Rattle.fx_text.specs.declared.position.Position.{Position}
use Rattle.fx_text.specs.Token.{Name, next}
use Rattle.fx_places.specs.declared.form.Form.TheVariants as form
use Rattle.fx_places.specs.declared.place.FormPlace.{FormPlace}
use Rattle.fx_places.specs.Form.{word_of}
use Rattle.fx_places.specs.Position.{line_after, column_after}
use Rattle.fx_places.specs.Places.{StandsAt, IsFormPlace}
use Rattle.fx_places.specs.Handle.{behind_from, behind, second_word, is_start, handle_of}

-- the line never goes back, and where it stays the column goes on by a byte at a time
rises_by : (feed : Bool) (line : ℕ) (bytes : List ℕ) → line + 1 ≤ line_after (line + 1) bytes → line ≤ line_after line bytes
    → line ≤ (if feed then line_after (line + 1) bytes else line_after line bytes)
rises_by true line bytes next here = omega arith
rises_by false line bytes next here = here

line_rises : (line : ℕ) (bytes : List ℕ) → line ≤ line_after line bytes
line_rises line [] = omega arith
line_rises line (b ∷ bytes) = rises_by (b == 10) line bytes (line_rises (line + 1) bytes) (line_rises line bytes)

column_by : (feed : Bool) (line column : ℕ) (bytes : List ℕ)
    → (line_after line bytes ≡ line → column_after (column + 1) bytes ≡ column + 1 + length bytes)
    → (if feed then line_after (line + 1) bytes else line_after line bytes) ≡ line
    → (if feed then column_after 1 bytes else column_after (column + 1) bytes) ≡ column + suc (length bytes)
column_by true line column bytes rest same = absurd (let le = line_rises (line + 1) bytes in omega (arith, same))
column_by false line column bytes rest same = omega (arith, rest same)

column_rises : (line column : ℕ) (bytes : List ℕ) → line_after line bytes ≡ line → column_after column bytes ≡ column + length bytes
column_rises line column [] same = omega arith
column_rises line column (b ∷ bytes) same = column_by (b == 10) line column bytes (column_rises line (column + 1) bytes) same

-- so no byte has the position of a later one
passed_by : (line column b : ℕ) (before : List ℕ) (position : Position) → position.line ≡ line_after line (b ∷ before)
    → position.column ≡ column_after column (b ∷ before) → ((line == position.line) && (column == position.column)) ≡ false
passed_by line column b before position is_line is_column = elim (cases_eq line position.line) [
  | inl same ↦ elim (cases_eq column position.column) [
    | inl same' ↦ absurd (let more = column_rises line column (b ∷ before) (sym is_line ∙ sym same) in omega (arith, more, is_column, same'))
    | inr other ↦ rw (eq-eqb line position.line same, ne_eqb column position.column other) refl
  ]
  | inr other ↦ rw (ne_eqb line position.line other) refl
]

goes_by : (test : Bool) (bytes rest : List ℕ) → test ≡ false → (if test then bytes else rest) ≡ rest
goes_by true bytes rest is = absurd cc
goes_by false bytes rest is = refl

line_of : (line b : ℕ) (before : List ℕ) → line_after line (b ∷ before) ≡ line_after (line_after line (b ∷ [])) before
line_of line b before = by_feed (b == 10)
  where
    by_feed : (feed : Bool) → (if feed then line_after (line + 1) before else line_after line before)
        ≡ line_after (if feed then line + 1 else line) before
    by_feed true = refl
    by_feed false = refl

column_of : (column b : ℕ) (before : List ℕ) → column_after column (b ∷ before) ≡ column_after (column_after column (b ∷ [])) before
column_of column b before = by_feed (b == 10)
  where
    by_feed : (feed : Bool) → (if feed then column_after 1 before else column_after (column + 1) before)
        ≡ column_after (if feed then 1 else column + 1) before
    by_feed true = refl
    by_feed false = refl

finds : (line column : ℕ) (before inside : List ℕ) (b : ℕ) (position : Position) → position.line ≡ line_after line before
    → position.column ≡ column_after column before → behind_from line column position (before ++ b ∷ inside) ≡ inside
finds line column [] inside b position is_line is_column =
    rw (eq-eqb line position.line (sym is_line), eq-eqb column position.column (sym is_column)) refl
finds line column (x ∷ before) inside b position is_line is_column =
    goes_by ((line == position.line) && (column == position.column)) (before ++ b ∷ inside) _ (passed_by line column x before position is_line is_column)
    ∙ finds (line_after line (x ∷ [])) (column_after column (x ∷ [])) before inside b position (is_line ∙ line_of line x before)
    (is_column ∙ column_of column x before)

pub handle_is_second : (text : List ℕ) (place : FormPlace) → IsFormPlace text place → place.form ≡ form.Start
    → (inside : List ℕ) × StandsAt text (40 ∷ inside) place.position × ((next inside).token ≡ Name (word_of form.Start))
    × (handle_of text place ≡ Some (second_word inside))
handle_is_second text place is start =
    let at = is.stands in
    let found : behind text place.position ≡ is.inside =
    ap (λ (bytes : List ℕ). behind_from 1 1 place.position bytes) at.is ∙ finds 1 1 at.before is.inside 40 place.position at.line at.column in
    (is.inside, at, is.word ∙ ap (λ f. Name (word_of f)) start, rw (start, found) refl)
