-- Which reports a text says that a script's runs may have, and which finding is none of these.
use Rattle.std.specs.Prelude.{ℕ, Bool, ◌||◌, ◌==◌, not, if◌then◌else◌, Option, List, [], ◌++◌, codes, bytes_eq, length, map}
use Rattle.std.specs.List.{filter, find, flat_map, list_any, slice_split, starts_with}
use Rattle.fx_report.specs.Text.{line_end}
use Rattle.fx_explore.specs.Told.{told_text}
use Rattle.fx_findings.specs.declared.explored.Finding.{Finding}
use Rattle.fx_findings.specs.Explored.{view_told}

-- what stands between the ends of lines, and between empty lines
abbrev pub lines_of : List ℕ → List (List ℕ)
lines_of text = slice_split (λ b. b == 10) text

abbrev pub groups_of : List (List ℕ) → List (List (List ℕ))
groups_of lines = slice_split (λ (line : List ℕ). length line == 0) lines

-- the line is of no report: it is that of a schedule, or the last one of a search
abbrev pub is_beside : List ℕ → Bool
is_beside line =
    starts_with (λ a b. a == b) line (codes "schedule") || bytes_eq line (codes "no schedule") || starts_with (λ a b. a == b) line (codes "explored:")

-- the line with its end, where it is of a report
abbrev pub report_line : List ℕ → List ℕ
report_line line = if is_beside line then [] else line ++ line_end

abbrev pub report_of : List (List ℕ) → List ℕ
report_of group = flat_map report_line group

-- the reports that groups of lines are, without those that have no line
abbrev pub reports_in : List (List (List ℕ)) → List (List ℕ)
reports_in groups = filter (λ (report : List ℕ). not (length report == 0)) (map report_of groups)

-- the reports of a text, which empty lines part
abbrev pub reports_of : List ℕ → List (List ℕ)
reports_of text = reports_in (groups_of (lines_of text))

-- the report is one of these
abbrev pub is_one_of : List (List ℕ) → List ℕ → Bool
is_one_of reports report = list_any (λ (r : List ℕ). bytes_eq r report) reports

-- the first finding of which the report is none of these, where the script's queues have these names
abbrev pub first_other : List (List ℕ) → List (List ℕ) → List Finding → Option Finding
first_other names reports findings = find (λ (x : Finding). not (is_one_of reports (told_text names (view_told x.told)))) findings
