-- The text of a picture is that of its sheet.
use Rattle.std.proofs.Common.{◌≡◌, ℕ, List, ◌++◌, subst}
use Rattle.fx_model.specs.Report.{FiberReportView}
use Rattle.fx_order.specs.declared.occurrence.Occurrence.{Occurrence}
use Rattle.fx_report.specs.declared.blocked.Blocked.{Blocked}
use Rattle.fx_picture.specs.Handles.{Named}
use Rattle.fx_svg.specs.Content.{rendering}
use Rattle.fx_picture.specs.declared.stood.Stood.{Stood}
use Rattle.fx_picture.specs.Folds.{SheetView, sheet_of}
use Rattle.fx_picture.specs.Picture.{drawing, picture_text}

pub drawn_as : (t₀ t₁ : List ℕ) (names : List (List ℕ)) (stood : List Stood) (handles : List Named) (blocked : List Blocked)
    (fibers : List FiberReportView) (list : List Occurrence) (sheet : SheetView) → sheet ≡ sheet_of stood list
    → t₁ ≡ t₀ ++ rendering (drawing names stood handles blocked fibers sheet)
    → t₁ ≡ t₀ ++ picture_text names stood handles blocked fibers list
unfolding picture_text
drawn_as t₀ t₁ names stood handles blocked fibers list sheet same is =
    subst (λ (s : SheetView). t₁ ≡ t₀ ++ rendering (drawing names stood handles blocked fibers s)) same is
