use Rattle.std.proofs.Common.{◌≡◌, length}
use Rattle.fx_run_events.specs.SolePuts.{sole_put}
use Rattle.fx_run_events.proofs.SolePuts.{sole_after}
use Rattle.fx_run_events.proofs.sole_puts.sole_put.Given as goal

-- by what is found so far and what is left
abbrev pub invariant-loop-put : goal.invariant-loop-put
invariant-loop-put l = sole_after l.queue l.value l.found l.rest ≡ sole_put l.queue l.value l.puts

abbrev pub decreases-loop-put : goal.decreases-loop-put
decreases-loop-put l = length l.rest
