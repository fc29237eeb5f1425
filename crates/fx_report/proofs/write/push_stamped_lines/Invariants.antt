use Rattle.std.proofs.Common.{◌≡◌, ◌++◌, take, string_bytes}
use Rattle.std.specs.List.{flat_map}
use Rattle.fx_term.specs.declared.stamped.Stamped.{Stamped}
use Rattle.fx_report.specs.Text.{names_of, event_line}
use Rattle.fx_report.proofs.write.push_stamped_lines.Given as goal

abbrev pub invariant-loop-stamped : goal.invariant-loop-stamped
invariant-loop-stamped l = string_bytes l.text
    ≡ string_bytes l.fn.text ++ flat_map (λ (x : Stamped). event_line (names_of l.queues) l.id x.stamp x.event) (take l.stamped-index l.trace)
