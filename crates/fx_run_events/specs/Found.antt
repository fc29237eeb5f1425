-- What is found of a run on threads afterwards, or not.
use Rattle.std.specs.Prelude.{ℕ, Bool, Option, List, []}
use Rattle.std.specs.List.Sorted.{IsPermutation}
use Rattle.fx_term.specs.declared.node.Node.{Node}
use Rattle.fx_term.specs.Script.{ScriptView}
use Rattle.fx_model.specs.Report.{ReportView, trace_in}
use Rattle.fx_model.specs.ReportStamps.{IsStampedReport, stamp_in}
use Rattle.fx_model.specs.Stamps.{IsBelowTop}
use Rattle.fx_order.specs.declared.occurrence.Occurrence.{Occurrence}
use Rattle.fx_order.specs.Occurrences.{occurrences}
use Rattle.fx_counts.specs.declared.at_queue.AtQueue.{AtQueue}
use Rattle.fx_counts.specs.Counted.{AreCounted}
use Rattle.fx_counts.specs.KeepsOrder.{KeepsOrder}
use Rattle.fx_follow.specs.declared.stand.Stand.{Stand}
use Rattle.fx_follow.specs.Followed.{AreFollowed}

-- that is told of the fibers of a report, by runs that they have; or nothing is: in which reports no runs are found is not said
pub data AreFollowedOrNone (nodes : List Node) (s : ScriptView) (r : ReportView) : List (List Stand) → Type 0 where
  followed : {told : List (List Stand)} → AreFollowed nodes s r told → AreFollowedOrNone nodes s r told
  not_followed : AreFollowedOrNone nodes s r []

-- all events of a report are in the list once, and each fiber's in their own order, where the report has the stamps of the definition, of which none is the
-- greatest number
pub record IsInOwnOrder (r : ReportView) (list : List Occurrence) : Type 0 where
  pub each_once : IsPermutation (occurrences r) list
  pub keeps : (s : ScriptView) (may : ℕ → Bool) → IsStampedReport s may r → IsBelowTop (trace_in r) (stamp_in r) → KeepsOrder r list

-- these are the counts of such a list, for queues of these capacities; or none are told: of which reports none are is not said
pub data AreCountedOrNone (capacities : List ℕ) (r : ReportView) : List Occurrence → List (Option AtQueue) → Type 0 where
  counted : {list : List Occurrence} {counts : List (Option AtQueue)} → IsInOwnOrder r list → AreCounted capacities r list counts
      → AreCountedOrNone capacities r list counts
  not_counted : AreCountedOrNone capacities r [] []
