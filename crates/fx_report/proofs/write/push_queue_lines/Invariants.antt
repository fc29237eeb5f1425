use Rattle.std.proofs.Common.{◌≡◌, ◌++◌, drop, map, string_bytes}
use Rattle.fx_term.specs.Element.{elements_of}
use Rattle.fx_report.specs.Text.{names_of, queue_lines}
use Rattle.fx_report.proofs.write.push_queue_lines.Given as goal

-- what is written so far, and the lines of the other queues, are the whole
abbrev pub invariant-loop-i : goal.invariant-loop-i
invariant-loop-i l = string_bytes l.text ++ queue_lines (names_of (drop l.i l.queues)) (map (λ items. elements_of items.items) (drop l.i l.left))
    ≡ string_bytes l.fn.text ++ queue_lines (names_of l.queues) (map (λ items. elements_of items.items) l.left)
