-- What stands in a tree.
use Rattle.std.specs.Prelude.{◌≡◌, ℕ, ◌<◌, Some, List, slice_get, ◌⊎◌}
use Rattle.fx_model.specs.Report.{FiberReportView}
use Rattle.fx_svg.specs.Content.{Content, nothing, words, element, both}
use Rattle.fx_picture.specs.declared.cause.Cause.{Cause}
use Rattle.fx_picture.specs.declared.drawn.Drawn.{Drawn}
use Rattle.fx_picture.specs.declared.stood.Stood.{Stood}
use Rattle.fx_picture.specs.Causes.{cause_in}
use Rattle.fx_picture.specs.Picture.{arrow}

-- the element stands in the tree, or is it
abbrev pub Has : Content → Content → Type 0
Has nothing e = ⊥
Has (words ws) e = ⊥
Has (element tag attributes inside) e = (e ≡ element tag attributes inside) ⊎ Has inside e
Has (both a b) e = Has a e ⊎ Has b e

-- the element is the arrow from one event of the list to another below it that stands on it, where this is told of the run
pub record IsArrow (stood : List Stood) (fibers : List FiberReportView) (list : List Drawn) (e : Content) : Type 0 where
  pub above : ℕ
  pub below : ℕ
  pub first : Drawn
  pub second : Drawn
  pub cause : Cause
  pub order : above < below
  pub is_first : slice_get list above ≡ Some first
  pub is_second : slice_get list below ≡ Some second
  pub stands_on : cause_in stood first.event second.event ≡ Some cause
  pub is : e ≡ arrow fibers first second cause
