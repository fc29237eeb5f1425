use Rattle.std.proofs.Common.{◌≡◌, ◌++◌, take, string_bytes}
use Rattle.std.specs.List.{flat_map}
use Rattle.fx_report.specs.Text.{names_of}
use Rattle.fx_findings.specs.Text.{finding_text}
use Rattle.fx_findings.proofs.write.push_findings.Given as goal

abbrev pub invariant-loop-finding : goal.invariant-loop-finding
invariant-loop-finding l = string_bytes l.text ≡ string_bytes l.fn.text ++ flat_map (finding_text (names_of l.queues)) (take l.finding-index l.findings)
