use Rattle.std.proofs.Common.{◌≡◌, ◌++◌, map, drop}
use Rattle.fx_findings.specs.Expected.{reports_in}
use Rattle.fx_findings.proofs.expected.reports_in.Given as goal

-- the reports so far, and those of the other groups, are all
abbrev pub invariant-loop-group : goal.invariant-loop-group
invariant-loop-group l = map (λ report. report.items) l.reports.items
    ++ reports_in (map (λ group. map (λ line. line.now) group.now) (drop l.group-index l.groups))
    ≡ reports_in (map (λ group. map (λ line. line.now) group.now) l.fn.groups)
