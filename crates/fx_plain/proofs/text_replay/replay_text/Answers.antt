use Rattle.std.proofs.lemmas.Result.{err_from_is_err_and}
use Rattle.fx_report.proofs.Answered.{answers_text, fails_to_answer, reads_text}
use Rattle.fx_report.proofs.Written.{keeps_same}
use Rattle.fx_plain.specs.TextReplay.{IsReplayOf}
use Rattle.fx_plain.proofs.text_replay.replay_text.Goals as goal

pub returns-in_err-answer : goal.returns-in_err-answer
returns-in_err-answer g c =
    let fault = err_from_is_err_and c.from_residual-in_err-answer.result c.from_residual-in_err-answer.ensures.1 in
    rw (fault.1, fault.2) (fails_to_answer _ _ _ _ c.in_ok-text.ensures.text, keeps_same _)

pub returns-in_err-write_text : goal.returns-in_err-write_text
returns-in_err-write_text g c =
    let fault = err_from_is_err_and c.from_residual-in_err-write_text.result c.from_residual-in_err-write_text.ensures.1 in
    let taken = rw (← c.deref.ensures.value) at c.in_ok-text.ensures.text in
    let part = rw c.in_err-write_text.ensures.fault at c.in_err-write_text.ensures.part in
    rw (fault.1, fault.2, c.in_err-write_text.ensures.fault) (
      _,
      reads_text _ _ _ _ taken,
      record {
        status = _;
        text = _;
        answer = answers_text (IsReplayOf c.args.picks.now) _ _ _ _ _ taken c.in_ok-answer.ensures;
        part = rw c.as_bytes.ensures.value at part;
      },
    )

pub returns : goal.returns
returns g c =
    let taken = rw (← c.deref.ensures.value) at c.in_ok-text.ensures.text in (
      _,
      reads_text _ _ _ _ taken,
      record {
        text = _;
        answer = answers_text (IsReplayOf c.args.picks.now) _ _ _ _ _ taken c.in_ok-answer.ensures;
        appended = rw c.as_bytes.ensures.value at c.in_ok-write_text.ensures.whole;
      },
    )
