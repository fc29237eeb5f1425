use Rattle.std.proofs.Common.{◌≡◌, take}
use Rattle.fx_run_events.specs.SolePuts.{puts_in}
use Rattle.fx_run_events.proofs.sole_puts.puts_of.Given as goal

abbrev pub invariant-loop-fiber : goal.invariant-loop-fiber
invariant-loop-fiber l = l.puts.items ≡ puts_in (take l.fiber-index l.fibers)
