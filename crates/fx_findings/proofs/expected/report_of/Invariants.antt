use Rattle.std.proofs.Common.{◌≡◌, map, take}
use Rattle.fx_findings.specs.Expected.{report_of}
use Rattle.fx_findings.proofs.expected.report_of.Given as goal

abbrev pub invariant-loop-line : goal.invariant-loop-line
invariant-loop-line l = l.report.items ≡ report_of (map (λ line. line.now) (take l.line-index l.lines))
