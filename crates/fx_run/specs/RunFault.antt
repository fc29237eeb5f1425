-- Why a run has no report.
use Rattle.std.specs.Prelude.{ℕ, List}
use Rattle.fx_fiber.specs.Bare.{BareView}
use Rattle.fx_term.specs.Script.{ScriptView}
use Rattle.fx_model.specs.Report.{ReportView}
use Rattle.fx_run.specs.declared.run_fault.RunFault.{RunFault}
use Rattle.fx_run.specs.declared.run_fault.RunFault.TheVariants.{Workers, Memory, Lost, Unsettled}
use Rattle.fx_run.specs.Reported.{NoneIsLost, IsLost, IsUnsettled, IsLeast}

abbrev pub run_fault_number : RunFault → ℕ
run_fault_number Workers = 1
run_fault_number Memory = 2
run_fault_number (Lost f) = 3
run_fault_number (Unsettled f) = 4

-- the fault that the test for lost fibers answers: the least that is lost, want of memory aside
abbrev pub IsLostFault : List BareView → RunFault → Type 0
IsLostFault bares Memory = Unit {0}
IsLostFault bares (Lost f) = IsLeast (IsLost bares) f
IsLostFault bares _ = ⊥

-- the fault that `report` answers: the least that is lost; else the least that is unsettled
abbrev pub IsReportFault : ScriptView → List BareView → ReportView → RunFault → Type 0
IsReportFault s bares r Memory = Unit {0}
IsReportFault s bares r (Lost f) = IsLeast (IsLost bares) f
IsReportFault s bares r (Unsettled f) = NoneIsLost bares × IsLeast (IsUnsettled s bares r) f
IsReportFault s bares r Workers = ⊥
