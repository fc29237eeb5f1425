-- The order of events that is found keeps that of each fiber's.
use Rattle.std.proofs.Common.{List}
use Rattle.std.specs.List.Sorted.{IsPermutation}
use Rattle.std.proofs.lemmas.List.Sorted.{IsPermutation-trans}
use Rattle.fx_model.specs.Report.{ReportView}
use Rattle.fx_order.specs.CausalOrder.{PutsCausesFirst}
use Rattle.fx_order.specs.Occurrences.{occurrences}
use Rattle.fx_order.specs.declared.occurrence.Occurrence.{Occurrence}
use Rattle.fx_counts.specs.KeepsOrder.{KeepsOrder}
use Rattle.fx_counts.proofs.KeepsOrder.{keeps_order-from_causes}
use Rattle.fx_run_events.specs.Found.{IsInOwnOrder}

pub in_own_order : (r : ReportView) (list better : List Occurrence) → IsPermutation (occurrences r) list → PutsCausesFirst r list
    → IsPermutation list better → (KeepsOrder r list → KeepsOrder r better) → IsInOwnOrder r better
in_own_order r list better whole causes same keeps = record {
  each_once = IsPermutation-trans (occurrences r) list better whole same;
  keeps = λ s may report below.
      keeps (keeps_order-from_causes s may r report.stamped.lawful list whole (causes s may report below));
}
