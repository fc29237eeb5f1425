-- The events of a report with their stamps, and lists of them in order.
use Rattle.std.specs.Prelude.{◌≡◌, ℕ, suc, ◌<◌, ◌≤◌, Some, List, [], ◌∷◌, slice_get, ◌⊎◌}
use Rattle.std.specs.List.{flat_map}
use Rattle.fx_term.specs.declared.event.Event.{Event}
use Rattle.fx_model.specs.Report.{FiberReportView, ReportView}
use Rattle.fx_order.specs.declared.occurrence.Occurrence.{Occurrence}

-- the events of fiber f from place i of its trace on, each with its stamp
abbrev pub occurrences_from : ℕ → ℕ → List Event → List ℕ → List Occurrence
occurrences_from f i (e ∷ es) (n ∷ ns) = record { fiber = f; place = i; event = e; stamp = n } ∷ occurrences_from f (suc i) es ns
occurrences_from f i _ _ = []

-- those of one fiber of a report
abbrev pub occurrences_of : FiberReportView → List Occurrence
occurrences_of x = occurrences_from x.id 0 x.trace x.stamps

-- those of all its fibers, one fiber after the other
abbrev pub occurrences : ReportView → List Occurrence
occurrences r = flat_map occurrences_of r.fibers

-- x is y or before it: by stamp, then by fiber, then by place in the fiber's trace
abbrev pub IsNoLater : Occurrence → Occurrence → Type 0
IsNoLater x y = (x.stamp < y.stamp) ⊎ ((x.stamp ≡ y.stamp) × ((x.fiber < y.fiber) ⊎ ((x.fiber ≡ y.fiber) × (x.place ≤ y.place))))

-- each one is no later than those that follow it
abbrev pub IsInOrder : List Occurrence → Type 0
IsInOrder list = (i j : ℕ) (x y : Occurrence) → i < j → slice_get list i ≡ Some x → slice_get list j ≡ Some y → IsNoLater x y
