use Rattle.std.proofs.Common.{◌≡◌, ◌++◌, length, codes, string_bytes}
use Rattle.std.specs.List.{flat_map}
use Rattle.fx_term.specs.Element.{Element, elements_of}
use Rattle.fx_report.specs.Text.{number}
use Rattle.fx_report.proofs.lines.push_queue_line.Given as goal

-- what is written so far, and the values of the other elements, are the line
abbrev pub invariant-loop-item : goal.invariant-loop-item
invariant-loop-item l = string_bytes l.text ++ flat_map (λ (x : Element). number x.value) (elements_of l.rest)
    ≡ (string_bytes l.fn.text ++ codes "queue " ++ string_bytes l.queue.name ++ codes " left")
    ++ flat_map (λ (x : Element). number x.value) (elements_of l.items)

abbrev pub decreases-loop-item : goal.decreases-loop-item
decreases-loop-item l = length l.rest
