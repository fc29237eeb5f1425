-- Which reports stand in the text of a search, and that the text says that there are no others.
use Rattle.std.specs.Prelude.{◌≡◌, ℕ, ◌⊎◌, Option, List, [], ◌++◌, IfSome, codes}
use Rattle.fx_term.specs.Script.{ScriptView}
use Rattle.fx_text.specs.declared.pick.Pick.{Pick}
use Rattle.fx_model.specs.Report.{ReportView}
use Rattle.fx_report.specs.Text.{line_end, report_text}
use Rattle.fx_plain.specs.Chosen.{IsReplay}
use Rattle.fx_findings.specs.Text.{schedule_line}

-- the last line ends so
abbrev pub SaysComplete : List ℕ → Type 0
SaysComplete text = (before : List ℕ) × (text ≡ before ++ codes ", complete" ++ line_end)

-- a line begins behind it
abbrev pub IsAtLine : List ℕ → Type 0
IsAtLine before = (before ≡ []) ⊎ ((lines : List ℕ) × (before ≡ lines ++ line_end))

-- the report stands there, before an empty line, and behind the line of a schedule by which a replay of the script has the same report, as far as it is
-- printed, or behind the line that none is known
pub record IsPrinted (s : ScriptView) (names : List (List ℕ)) (r : ReportView) (text : List ℕ) : Type 0 where
  pub before : List ℕ
  pub schedule : Option (List Pick)
  pub after : List ℕ
  pub parts : text ≡ before ++ (schedule_line schedule ++ report_text names r ++ line_end) ++ after
  pub at_line : IsAtLine before
  pub replayed : IfSome schedule (λ ps. (again : ReportView) → IsReplay s ps again → report_text names again ≡ report_text names r)
