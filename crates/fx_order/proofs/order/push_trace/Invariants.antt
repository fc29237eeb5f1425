use Rattle.std.proofs.Common.{◌≡◌, ◌++◌, take}
use Rattle.fx_term.specs.Stamped.{events_in, stamps_in}
use Rattle.fx_order.specs.Occurrences.{occurrences_from}
use Rattle.fx_order.proofs.order.push_trace.Given as goal

abbrev pub invariant-loop-place : goal.invariant-loop-place
invariant-loop-place l =
    l.list.items ≡ l.fn.list.items ++ occurrences_from l.fiber 0 (events_in (take l.place l.trace)) (stamps_in (take l.place l.trace))
