use Rattle.std.proofs.Common.{◌≡◌, ◌++◌, drop, length, string_bytes}
use Rattle.fx_report.specs.Text.{names_of}
use Rattle.fx_explore.specs.StateRows.{values_of}
use Rattle.fx_explore.specs.Told.{value_lines}
use Rattle.fx_findings.proofs.write.push_value_lines.Given as goal

-- what is written so far, and the lines of the other queues, are the whole
abbrev pub invariant-loop-queue : goal.invariant-loop-queue
invariant-loop-queue l = string_bytes l.text ++ value_lines (names_of (drop (length l.yielded) l.queues)) (values_of (drop (length l.yielded) l.left))
    ≡ string_bytes l.fn.text ++ value_lines (names_of l.queues) (values_of l.left)
