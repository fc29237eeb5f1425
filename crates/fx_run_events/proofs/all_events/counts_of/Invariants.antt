use Rattle.std.proofs.Common.{◌≡◌, ◌++◌, length}
use Rattle.fx_run_events.specs.RanEvents.{counts_of}
use Rattle.fx_run_events.proofs.all_events.counts_of.Given as goal

-- the counts so far and those of what is left are all
abbrev pub invariant-loop-it : goal.invariant-loop-it
invariant-loop-it l = l.own.items ++ counts_of l.fiber l.rest l.counts ≡ counts_of l.fiber l.list l.fn.counts

abbrev pub decreases-loop-it : goal.decreases-loop-it
decreases-loop-it l = length l.rest
