-- The reports of a text, by way of lines that are lent.
use Rattle.std.proofs.Common.{◌≡◌, ◌==◌, ℕ, Bor, List, length, map, sym, ◌∙◌, ap}
use Rattle.std.proofs.lemmas.Simd.{map-map}
use Rattle.std.specs.List.{slice_split}
use Rattle.fx_findings.specs.Expected.{lines_of, groups_of, reports_in, reports_of}
use Rattle.fx_findings.proofs.MappedSplits.{slice_split_map}

-- the groups of lines that are lent, read
abbrev pub read_lines : List (Bor (List ℕ)) → List (List ℕ)
read_lines lines = map (λ (line : Bor (List ℕ)). line.now) lines

pub reports_of_lent : (text : List ℕ) (lines : List (Bor (List ℕ))) (groups : List (Bor (List (Bor (List ℕ))))) → read_lines lines ≡ lines_of text
    → map (λ (group : Bor (List (Bor (List ℕ)))). group.now) groups ≡ slice_split (λ (line : Bor (List ℕ)). length line.now == 0) lines
    → reports_in (map (λ (group : Bor (List (Bor (List ℕ)))). read_lines group.now) groups) ≡ reports_of text
reports_of_lent text lines groups are parts =
    ap reports_in (sym (map-map read_lines (λ (group : Bor (List (Bor (List ℕ)))). group.now) groups) ∙ ap (map read_lines) parts
    ∙ slice_split_map (λ (line : Bor (List ℕ)). line.now) (λ (line : List ℕ). length line == 0) lines ∙ ap groups_of are)
