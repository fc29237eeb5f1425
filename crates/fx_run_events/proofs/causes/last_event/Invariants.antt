use Rattle.std.proofs.Common.{◌≡◌, length}
use Rattle.fx_run_events.specs.Causes.{last_event}
use Rattle.fx_run_events.proofs.causes.last_event.Given as goal

-- the fiber is none of those before
abbrev pub invariant-loop-fiber : goal.invariant-loop-fiber
invariant-loop-fiber l = last_event l.rest l.id ≡ last_event l.fibers l.id

abbrev pub decreases-loop-fiber : goal.decreases-loop-fiber
decreases-loop-fiber l = length l.rest
