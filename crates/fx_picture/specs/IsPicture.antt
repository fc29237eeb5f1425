-- Which text is the picture of a report.
use Rattle.std.specs.Prelude.{◌≡◌, ℕ, ◌<◌, List, length, ◌⊎◌}
use Rattle.std.specs.List.Sorted.{IsPermutation}
use Rattle.fx_model.specs.Report.{ReportView}
use Rattle.fx_order.specs.declared.occurrence.Occurrence.{Occurrence}
use Rattle.fx_order.specs.Occurrences.{occurrences, IsInOrder}
use Rattle.fx_order.specs.CausalOrder.{PutsCausesFirst}
use Rattle.fx_report.specs.declared.blocked.Blocked.{Blocked}
use Rattle.fx_picture.specs.Handles.{Named}
use Rattle.fx_picture.specs.declared.layout.TheConstants.{MOST_EVENTS}
use Rattle.fx_picture.specs.declared.stood.Stood.{Stood}
use Rattle.fx_picture.specs.Picture.{picture_text}

-- The text is that of a picture in which each event of the report is drawn once, in the order of the stamps, so that causes stand above what they
-- caused; fibers stood where that is told and are called so, and blocked ones wait for what these say
pub record IsPicture (names : List (List ℕ)) (stood : List Stood) (r : ReportView) (handles : List Named) (blocked : List Blocked)
    (text : List ℕ) : Type 0 where
  pub list : List Occurrence
  pub each_once : IsPermutation (occurrences r) list
  pub in_order : IsInOrder list
  pub causes_first : PutsCausesFirst r list
  pub rendered : text ≡ picture_text names stood handles blocked r.fibers list

-- the report has too many fibers or events for a picture, or its script has too many queues, which have these names
abbrev pub IsTooLarge : List (List ℕ) → ReportView → Type 0
IsTooLarge names r = (MOST_EVENTS < length names) ⊎ (MOST_EVENTS < length r.fibers) ⊎ (MOST_EVENTS < length (occurrences r))
