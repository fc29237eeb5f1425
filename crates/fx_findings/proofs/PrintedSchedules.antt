-- The text of a printed schedule spells its picks.
use Rattle.std.proofs.Common.{◌≡◌, ℕ, ◌*◌, ◌≤◌, ◌<◌, ◌^◌, true, List, [], ◌∷◌, All, length, refl, append_assoc, arith, rules, length-append}
use Rattle.std.specs.Prelude.{codes, decimal}
use Rattle.std.specs.List.{flat_map, list_all}
use Rattle.std.proofs.lemmas.Fmt.{decimal_nonempty, digits_decimal, digits_value-decimal, length-decimal-le}
use Rattle.std.proofs.lemmas.List.Elements.{All-head, All-tail}
use Rattle.std.proofs.lemmas.Str.Parse.{IsNumeralModel, numerals_by_fold}
use Rattle.fx_text.specs.declared.pick.Pick.{Pick}
use Rattle.fx_text.specs.declared.pick.Pick.TheVariants as pick
use Rattle.fx_text.specs.Limits.{most_number, most_picks}
use Rattle.fx_text.specs.Schedule.{IsNumber, IsSchedule, SpellsPicks, EndsWord, nothing, space, word}
use Rattle.fx_text.specs.Schedule.IsWord.{step, cancel}
use Rattle.fx_text.specs.Token.{is_digit, value_after}
use Rattle.fx_report.specs.Text.{line_end}
use Rattle.fx_findings.specs.Printed.{HasSmallNumber}
use Rattle.fx_findings.specs.Text.{pick_text, picks_text}

-- these are the digits and the numbers of `decimal`
own : IsNumeralModel (λ ds. list_all is_digit ds ≡ true) (value_after 0)
own = numerals_by_fold _ (search rules) value_after (search rules)

pub decimal_is_number : (n : ℕ) → n ≤ most_number → IsNumber (decimal n) n
decimal_is_number n small =
    let fits : n < 2 ^ 64 = omega arith in
    record { some = decimal_nonempty n fits; all = digits_decimal own n fits; value = digits_value-decimal own n fits; small = small }

-- a word ends before the next one, and before the end of the line
ends : (ps : List Pick) → EndsWord (picks_text ps)
ends [] = refl
ends (pick.Step f ∷ ps) = refl
ends (pick.Cancel f ∷ ps) = refl

spells : (ps : List Pick) → All HasSmallNumber ps → SpellsPicks (picks_text ps) ps
spells [] small = space refl nothing
spells (pick.Step f ∷ ps) small =
    let rest = spells ps (All-tail HasSmallNumber _ ps small) in
    let own = step (decimal_is_number f (All-head HasSmallNumber _ ps small)) in
    space refl (word (decimal f) (picks_text ps) own (ends ps) rest (append_assoc (decimal f) (flat_map pick_text ps) line_end))
spells (pick.Cancel f ∷ ps) small =
    let rest = spells ps (All-tail HasSmallNumber _ ps small) in
    let own = cancel (decimal_is_number f (All-head HasSmallNumber _ ps small)) in
    space refl (word (99 ∷ decimal f) (picks_text ps) own (ends ps) rest (append_assoc (99 ∷ decimal f) (flat_map pick_text ps) line_end))

-- a pick has at most twelve bytes
pick_short : (p : Pick) → HasSmallNumber p → length (pick_text p) ≤ 12
pick_short (pick.Step f) small =
    let digits = length-decimal-le 10 f (omega arith) (omega arith) (omega arith) in
    omega (arith, length-append (codes " ") (decimal f))
pick_short (pick.Cancel f) small =
    let digits = length-decimal-le 10 f (omega arith) (omega arith) (omega arith) in
    omega (arith, length-append (codes " c") (decimal f))

picks_short : (ps : List Pick) → All HasSmallNumber ps → length (flat_map pick_text ps) ≤ 12 * length ps
picks_short [] small = omega arith
picks_short (p ∷ ps) small =
    let one = pick_short p (All-head HasSmallNumber p ps small) in
    let rest = picks_short ps (All-tail HasSmallNumber p ps small) in
    omega (arith, length-append (pick_text p) (flat_map pick_text ps))

pub is_read : (ps : List Pick) → All HasSmallNumber ps → length ps ≤ most_picks → IsSchedule (picks_text ps) ps
is_read ps small few =
    let short = picks_short ps small in
    record { short = omega (arith, length-append (flat_map pick_text ps) line_end); few = few; spells = spells ps small }
