-- The status after a run.
use Rattle.std.specs.Prelude.{ℕ, if◌then◌else◌}
use Rattle.std.specs.List.{list_all}
use Rattle.fx_model.specs.Report.{FiberReportView, ReportView}
use Rattle.fx_report.specs.declared.status.TheConstants.{ENDED, BLOCKED}

-- by its report: each fiber has ended, or one waits for good
abbrev pub status_of : ReportView → ℕ
status_of r = if list_all (λ (x : FiberReportView). x.has_ended) r.fibers then ENDED else BLOCKED
