use Rattle.std.proofs.Common.{◌≡◌, drop}
use Rattle.fx_term.specs.Stamped.{events_in}
use Rattle.fx_run.specs.Tally.{with_all_shown}
use Rattle.fx_run.proofs.tally.Tally.events.Given as goal

abbrev pub invariant-loop-k : goal.invariant-loop-k
invariant-loop-k l = with_all_shown l.fn.id (events_in (drop l.k l.fn.trace)) l.self ≡ with_all_shown l.fn.id (events_in l.fn.trace) l.fn.self
