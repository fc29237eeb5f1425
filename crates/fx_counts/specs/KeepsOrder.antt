-- A list of the events of a report in which each fiber's stand in its own order.
use Rattle.std.specs.Prelude.{◌≡◌, ℕ, ◌<◌, nat_lt, Bool, true, Option, Some, None, List, length, slice_get}
use Rattle.std.specs.List.Sorted.{IsPermutation}
use Rattle.fx_term.specs.declared.event.Event.{Event}
use Rattle.fx_model.specs.Report.{ReportView, trace_in}
use Rattle.fx_model.specs.ReportStamps.{stamp_in}
use Rattle.fx_order.specs.declared.occurrence.Occurrence.{Occurrence}
use Rattle.fx_order.specs.Occurrences.{occurrences}
use Rattle.fx_counts.specs.Counted.{IsHistory}

-- Each event of the report stands in the list once, and nothing else does; event i of fiber f stands at its moment, and later events of f at later moments
pub record KeepsOrder (r : ReportView) (list : List Occurrence) : Type 0 where
  pub each_once : IsPermutation (occurrences r) list
  pub moment : ℕ → ℕ → ℕ
  pub stands : (f i : ℕ) (e : Event) → slice_get (trace_in r f) i ≡ Some e
      → slice_get list (moment f i) ≡ Some (record { fiber = f; place = i; event = e; stamp = stamp_in r f i })
  pub rises : (f i j : ℕ) → i < j → j < length (trace_in r f) → moment f i < moment f j

-- of two events of one fiber the one that stands earlier in the list has the earlier place
abbrev pub PlacesRise : List Occurrence → Type 0
PlacesRise list = (i j : ℕ) (x y : Occurrence) → i < j → slice_get list i ≡ Some x → slice_get list j ≡ Some y → x.fiber ≡ y.fiber → x.place < y.place

-- the list has the same events as the other one, and keeps the order of each fiber's
abbrev pub IsReordered : List Occurrence → List Occurrence → Type 0
IsReordered list other = IsPermutation list other × PlacesRise other

-- it has a history of each queue of the report, where queues have these capacities
abbrev pub HaveHistories : List ℕ → ReportView → List Occurrence → Type 0
HaveHistories capacities r list = (q : ℕ) → q < length capacities → IsHistory capacities r list q

-- the place comes after that one, if there is one
abbrev pub is_next : ℕ → Option ℕ → Bool
is_next place None = true
is_next place (Some before) = nat_lt before place
