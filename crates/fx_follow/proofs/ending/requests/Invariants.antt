use Rattle.std.proofs.Common.{◌≡◌}
use Rattle.std.specs.Prelude.{drop}
use Rattle.std.specs.List.{list_any}
use Rattle.fx_term.specs.Stamped.{events_in}
use Rattle.fx_model.specs.Report.{is_request_for}
use Rattle.fx_follow.proofs.ending.requests.Given as goal

-- what is passed of the trace does not
abbrev pub invariant-loop-stamped : goal.invariant-loop-stamped
invariant-loop-stamped l =
    list_any (is_request_for l.fiber) (events_in (drop l.stamped-index l.trace)) ≡ list_any (is_request_for l.fiber) (events_in l.fn.trace)
