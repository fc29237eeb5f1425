use Rattle.std.proofs.Common.{◌≡◌}
use Rattle.std.specs.Prelude.{drop}
use Rattle.fx_term.specs.Stamped.{events_in}
use Rattle.fx_model.specs.Report.{outcome_shown}
use Rattle.fx_follow.proofs.ending.outcome_in.Given as goal

-- what is left of the trace tells it
abbrev pub invariant-loop-stamped : goal.invariant-loop-stamped
invariant-loop-stamped l = outcome_shown (events_in (drop l.stamped-index l.trace)) ≡ outcome_shown (events_in l.fn.trace)
