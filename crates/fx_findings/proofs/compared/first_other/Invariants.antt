use Rattle.std.proofs.Common.{◌≡◌, drop, map}
use Rattle.fx_report.specs.Text.{names_of}
use Rattle.fx_findings.specs.Expected.{first_other}
use Rattle.fx_findings.proofs.compared.first_other.Given as goal

-- the first one of those that are left is the first one of all
abbrev pub invariant-loop-finding : goal.invariant-loop-finding
invariant-loop-finding l = first_other (names_of l.queues) (map (λ report. report.items) l.reports) (drop l.finding-index l.findings)
    ≡ first_other (names_of l.fn.queues) (map (λ report. report.items) l.fn.reports) l.fn.findings
