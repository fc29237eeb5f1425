-- The picture of a report, and what is said of it.
use Rattle.std.specs.Prelude.{ℕ, List, [], ◌++◌, codes}
use Rattle.fx_model.specs.Report.{ReportView}
use Rattle.fx_report.specs.declared.status.TheConstants.{FAULT}
use Rattle.fx_report.specs.declared.blocked.Blocked.{Blocked}
use Rattle.fx_report.specs.Status.{status_of}
use Rattle.fx_report.specs.Text.{line_end}
use Rattle.fx_picture.specs.declared.stood.Stood.{Stood}
use Rattle.fx_picture.specs.Handles.{Named}
use Rattle.fx_picture.specs.IsPicture.{IsPicture, IsTooLarge}

abbrev pub too_large_line : List ℕ
too_large_line = codes "fault picture: too many events" ++ line_end

-- the words for people, the status and the text: these words, the status of the report and its picture, where fibers stood there and are called so, and blocked
-- ones wait for this; or one line, the status of a fault and no text, where the picture would be too large
pub data IsPictured (names : List (List ℕ)) (stood : List Stood) (r : ReportView) (handles : List Named) (blocked : List Blocked)
    (said : List ℕ) : List ℕ → ℕ → List ℕ → Type 0 where
  drawn : {text : List ℕ} → IsPicture names stood r handles blocked text → IsPictured names stood r handles blocked said said (status_of r) text
  too_large : IsTooLarge names r → IsPictured names stood r handles blocked said too_large_line FAULT []
