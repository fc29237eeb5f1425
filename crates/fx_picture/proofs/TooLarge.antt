-- Too many events in a list are too many of the report.
use Rattle.std.proofs.Common.{ℕ, ◌<◌, List, length, inr, subst}
use Rattle.std.specs.List.Sorted.{IsPermutation}
use Rattle.std.proofs.lemmas.List.Sorted.{length_permutation}
use Rattle.fx_model.specs.Report.{ReportView}
use Rattle.fx_order.specs.declared.occurrence.Occurrence.{Occurrence}
use Rattle.fx_order.specs.Occurrences.{occurrences}
use Rattle.fx_picture.specs.declared.layout.TheConstants.{MOST_EVENTS}
use Rattle.fx_picture.specs.IsPicture.{IsTooLarge}

pub too_many : (names : List (List ℕ)) (r : ReportView) (list : List Occurrence) → IsPermutation (occurrences r) list
    → MOST_EVENTS < length list → IsTooLarge names r
too_many names r list once many = inr (inr (subst (λ (n : ℕ). MOST_EVENTS < n) (length_permutation _ _ once) many))
