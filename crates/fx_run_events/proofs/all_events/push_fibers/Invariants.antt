use Rattle.std.proofs.Common.{◌≡◌, ◌++◌, length}
use Rattle.fx_follow.specs.Followed.{stands_of}
use Rattle.fx_run_events.specs.RanEvents.{events_in_turn}
use Rattle.fx_run_events.proofs.all_events.push_fibers.Given as goal

-- the events so far and those of what is left are all
abbrev pub invariant-loop-fiber : goal.invariant-loop-fiber
invariant-loop-fiber l =
    l.events.items ++ events_in_turn l.known.puts.now l.known.list.now l.known.fibers.now (stands_of l.told) l.counts l.rest
    ≡ l.fn.events.items ++ events_in_turn l.known.puts.now l.known.list.now l.known.fibers.now (stands_of l.fn.told) l.counts l.fibers

abbrev pub decreases-loop-fiber : goal.decreases-loop-fiber
decreases-loop-fiber l = length l.rest
