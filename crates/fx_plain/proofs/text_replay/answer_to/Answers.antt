use Rattle.fx_report.proofs.Answered.{answer_reported, answer_refused}
use Rattle.fx_plain.specs.TextReplay.{IsReplayOf}
use Rattle.fx_plain.proofs.text_replay.answer_to.Goals as goal

pub returns-in_ok-reported-in-Ok : goal.returns-in_ok-reported-in-Ok
returns-in_ok-reported-in-Ok c =
    answer_reported (IsReplayOf c.args.picks.now) _ _ _ _ _ c.in-Ok.ensures.found c.in_ok-report-in-Ok.ensures.replayed c.in_ok-reported-in-Ok.ensures.status
    c.in_ok-reported-in-Ok.ensures.text

pub returns-in_ok-refused-in_default : goal.returns-in_ok-refused-in_default
returns-in_ok-refused-in_default c =
    let read = c.in-Err.ensures in
    answer_refused (IsReplayOf c.args.picks.now) _ c.in-Err.fault _ _ c.in_default.not-Memory read.only read.exact c.in_ok-refused-in_default.ensures.status
    c.in_ok-refused-in_default.ensures.text
