-- The faults of closing a run are those of the test for lost fibers and of `report`.
use Rattle.std.proofs.Common.{◌≡◌, ℕ, List, subst}
use Rattle.fx_term.specs.declared.item.Item.{Item}
use Rattle.fx_term.specs.Script.{ScriptView, total}
use Rattle.fx_fiber.specs.Bare.{BareView}
use Rattle.fx_port.specs.Rows.{AreRests}
use Rattle.fx_run.specs.declared.gathered.Gathered.{Gathered}
use Rattle.fx_run.specs.declared.run_fault.RunFault.{RunFault}
use Rattle.fx_run.specs.declared.run_fault.RunFault.TheVariants.{Workers, Memory, Lost, Unsettled}
use Rattle.fx_run.specs.Reported.{report_of, IsLost, IsLeast}
use Rattle.fx_run.specs.RunFault.{IsLostFault, IsReportFault}
use Rattle.fx_run.specs.Closing.{AreMarked, IsCloseFault}

module _ (s : ScriptView) (g : Gathered) (late : ℕ) where
  pub lost_so : (bares : List BareView) → bares ≡ g.bares.items → (fault : RunFault) → IsLostFault bares fault → IsCloseFault s g late fault
  lost_so bares is Memory h = tt
  lost_so bares is (Lost f) h = subst (λ (bs : List BareView). IsLeast (IsLost bs) f) is h
  lost_so bares is (Unsettled f) h = absurd h
  lost_so bares is Workers h = absurd h

  pub reported_so : (left : List (List Item)) (outside : List ℕ) → AreRests g.passes left → AreMarked (total s) g.noted outside
      → (fault : RunFault) → IsReportFault s g.bares.items (report_of g.bares.items left outside late) fault → IsCloseFault s g late fault
  reported_so left outside rests marked Memory h = tt
  reported_so left outside rests marked (Lost f) h = h
  reported_so left outside rests marked (Unsettled f) h = (left, outside, rests, marked, h)
  reported_so left outside rests marked Workers h = absurd h
