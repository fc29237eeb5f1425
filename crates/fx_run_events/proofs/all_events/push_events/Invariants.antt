use Rattle.std.proofs.Common.{◌≡◌, ◌++◌, length}
use Rattle.fx_term.specs.Stamped.{events_in}
use Rattle.fx_run_events.specs.RanEvents.{events_of}
use Rattle.fx_run_events.proofs.all_events.push_events.Given as goal

-- the events so far and those of what is left are all
abbrev pub invariant-loop-stamped : goal.invariant-loop-stamped
invariant-loop-stamped l =
    l.events.items ++ events_of l.known.puts.now l.known.list.now l.known.fibers.now l.fiber l.stands l.counts (events_in l.rest)
    ≡ l.fn.events.items ++ events_of l.known.puts.now l.known.list.now l.known.fibers.now l.fiber l.fn.stands l.fn.counts (events_in l.trace)

abbrev pub decreases-loop-stamped : goal.decreases-loop-stamped
decreases-loop-stamped l = length l.rest
