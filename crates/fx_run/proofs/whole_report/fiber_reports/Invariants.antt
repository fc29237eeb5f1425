use Rattle.std.proofs.Common.{◌≡◌, ◌++◌, map}
use Rattle.fx_run.specs.ClosedAs.{report_by}
use Rattle.fx_run.proofs.whole_report.fiber_reports.Given as goal

abbrev pub invariant-loop-bare : goal.invariant-loop-bare
invariant-loop-bare l = l.reports.items ++ map (report_by l.fn.parents) l.bare-iterator.rest.items ≡ map (report_by l.fn.parents) l.fn.bares.items
