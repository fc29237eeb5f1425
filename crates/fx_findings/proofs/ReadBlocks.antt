-- What a text says that begins with the lines of a report and an empty line.
use Rattle.std.proofs.Common.{◌≡◌, ℕ, ◌==◌, Bool, false, cond, List, [], ◌∷◌, ◌++◌, All, length, not, refl, ◌∙◌, ap, append_assoc}
use Rattle.std.specs.List.{flat_map}
use Rattle.std.proofs.lemmas.List.Elements.{All-head, All-tail}
use Rattle.std.proofs.lemmas.List.Splits.{slice_split-cons_yes, slice_split_at}
use Rattle.fx_report.specs.Text.{line_end}
use Rattle.fx_findings.specs.Expected.{lines_of, groups_of, report_of, reports_in, reports_of}

-- no end of a line stands in it
abbrev IsLine : List ℕ → Type 0
IsLine line = All (λ b. (b == 10) ≡ false) line

abbrev ended : List ℕ → List ℕ
ended line = line ++ 10 ∷ []

lines_then : (lines : List (List ℕ)) (rest : List ℕ) → All IsLine lines → lines_of (flat_map ended lines ++ rest) ≡ lines ++ lines_of rest
lines_then [] rest are = refl
lines_then (line ∷ lines) rest are =
    ap lines_of (append_assoc (ended line) (flat_map ended lines) rest ∙ append_assoc line (10 ∷ []) (flat_map ended lines ++ rest))
    ∙ slice_split_at (λ b. b == 10) line 10 (flat_map ended lines ++ rest) (All-head IsLine line lines are) refl
    ∙ ap (λ (more : List (List ℕ)). line ∷ more) (lines_then lines rest (All-tail IsLine line lines are))

block_then : (lines : List (List ℕ)) (rest : List ℕ) → All IsLine lines → All (λ (line : List ℕ). (length line == 0) ≡ false) lines
    → reports_of (flat_map ended lines ++ 10 ∷ rest) ≡ reports_in (lines ∷ groups_of (lines_of rest))
block_then lines rest are full =
    ap (λ (all : List (List ℕ)). reports_in (groups_of all))
    (lines_then lines (10 ∷ rest) are ∙ ap (λ (more : List (List ℕ)). lines ++ more) (slice_split-cons_yes (λ b. b == 10) 10 rest refl))
    ∙ ap reports_in (slice_split_at (λ (line : List ℕ). length line == 0) lines [] (lines_of rest) full refl)

pub report_then : (lines : List (List ℕ)) (rest : List ℕ) → All IsLine lines → All (λ (line : List ℕ). (length line == 0) ≡ false) lines
    → (length (report_of lines) == 0) ≡ false → reports_of (flat_map ended lines ++ line_end ++ rest) ≡ report_of lines ∷ reports_of rest
report_then lines rest are full some =
    ap reports_of (append_assoc (flat_map ended lines) line_end rest) ∙ block_then lines rest are full
    ∙ ap (λ (b : Bool). cond (not b) (report_of lines ∷ reports_of rest) (reports_of rest)) some
