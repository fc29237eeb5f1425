-- What is said of a picture.
use Rattle.std.proofs.Common.{◌≡◌, ℕ, List, []}
use Rattle.fx_model.specs.Report.{ReportView}
use Rattle.fx_report.specs.declared.status.TheConstants.{FAULT}
use Rattle.fx_report.specs.declared.blocked.Blocked.{Blocked}
use Rattle.fx_report.specs.Status.{status_of}
use Rattle.fx_picture.specs.declared.stood.Stood.{Stood}
use Rattle.fx_picture.specs.Handles.{Named}
use Rattle.fx_picture.specs.IsPicture.{IsPicture, IsTooLarge}
use Rattle.fx_command.specs.Pictured.{IsPictured, drawn, too_large, too_large_line}

pub drawn_with : (names : List (List ℕ)) (stood : List Stood) (r : ReportView) (handles : List Named) (blocked : List Blocked) (said text : List ℕ) (status : ℕ)
    → IsPicture names stood r handles blocked text → status ≡ status_of r → IsPictured names stood r handles blocked said said status text
drawn_with names stood r handles blocked said text status is told = rw told (drawn is)

pub refused_with : (names : List (List ℕ)) (stood : List Stood) (r : ReportView) (handles : List Named) (blocked : List Blocked) (said words text : List ℕ)
    → IsTooLarge names r
    → words ≡ too_large_line → text ≡ [] → IsPictured names stood r handles blocked said words FAULT text
refused_with names stood r handles blocked said words text large told none = rw (told, none) (too_large large)
