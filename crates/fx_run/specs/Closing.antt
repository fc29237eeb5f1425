-- What closing a run answers.
use Rattle.std.specs.Prelude.{◌≡◌, ◌↔◌, ℕ, ◌<◌, Bool, true, List, Contains}
use Rattle.std.specs.List.Sorted.{IsStrictlyIncreasing}
use Rattle.fx_term.specs.declared.item.Item.{Item}
use Rattle.fx_term.specs.Script.{ScriptView, total}
use Rattle.fx_model.specs.Report.{ReportView}
use Rattle.fx_port.specs.Marks.{is_marked}
use Rattle.fx_port.specs.Rows.{AreRests}
use Rattle.fx_run.specs.declared.gathered.Gathered.{Gathered}
use Rattle.fx_run.specs.declared.run_fault.RunFault.{RunFault}
use Rattle.fx_run.specs.declared.run_fault.RunFault.TheVariants.{Workers, Memory, Lost, Unsettled}
use Rattle.fx_run.specs.Reported.{report_of, IsReported, IsLost, IsLeast}
use Rattle.fx_run.specs.RunFault.{IsReportFault}

-- the numbers are those below the bound that are marked
abbrev pub AreMarked : ℕ → List Bool → List ℕ → Type 0
AreMarked bound marks numbers = (f : ℕ) → Contains numbers f ↔ ((f < bound) × (is_marked marks f ≡ true))

-- the answer is the report of these fibers, by what is left in the queues, the numbers that a port noted, and this number of late ones
pub record IsReportOf (s : ScriptView) (g : Gathered) (late : ℕ) (answer : ReportView) : Type 0 where
  pub left : List (List Item)
  pub outside : List ℕ
  pub rests : AreRests g.passes left
  pub ascending : IsStrictlyIncreasing outside
  pub marked : AreMarked (total s) g.noted outside
  pub answered : IsReported s g.bares.items (report_of g.bares.items left outside late) answer

-- the fault is the least fiber that is lost; else the least that could still step by what is left in the queues and what was requested from outside; want of
-- memory aside
abbrev pub IsCloseFault : ScriptView → Gathered → ℕ → RunFault → Type 0
IsCloseFault s g late Memory = Unit {0}
IsCloseFault s g late (Lost f) = IsLeast (IsLost g.bares.items) f
IsCloseFault s g late (Unsettled f) = (left : List (List Item)) × (outside : List ℕ) × AreRests g.passes left × AreMarked (total s) g.noted outside
    × IsReportFault s g.bares.items (report_of g.bares.items left outside late) (Unsettled f)
IsCloseFault s g late Workers = ⊥
