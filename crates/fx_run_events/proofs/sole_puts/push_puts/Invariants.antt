use Rattle.std.proofs.Common.{◌≡◌, ◌++◌, ◌+◌, length}
use Rattle.fx_term.specs.Stamped.{events_in}
use Rattle.fx_run_events.specs.SolePuts.{puts_from}
use Rattle.fx_run_events.proofs.sole_puts.push_puts.Given as goal

-- the puts so far and those of what is left are all
abbrev pub invariant-loop-stamped : goal.invariant-loop-stamped
invariant-loop-stamped l =
    (l.puts.items ++ puts_from l.fiber l.place (events_in l.rest) ≡ l.fn.puts.items ++ puts_from l.fiber 0 (events_in l.trace))
    × (l.place + length l.rest ≡ length l.trace)

abbrev pub decreases-loop-stamped : goal.decreases-loop-stamped
decreases-loop-stamped l = length l.rest
