use Rattle.std.proofs.lemmas.Result.{err_from_is_err_and}
use Rattle.fx_command.proofs.Refused.{no_schedule}
use Rattle.fx_command.proofs.texts.picks_in.Goals as goal

pub returns-in_err-schedule_refusal-in_default : goal.returns-in_err-schedule_refusal-in_default
returns-in_err-schedule_refusal-in_default c =
    let fault = err_from_is_err_and c.from_residual.result c.from_residual.ensures.1 in
    rw (fault.1, fault.2) (record { found = tt; refused = tt })

pub returns-in_ok-schedule_refusal-in_default : goal.returns-in_ok-schedule_refusal-in_default
returns-in_ok-schedule_refusal-in_default c =
    let read = c.in-Err.ensures in
    let told = c.in_ok-schedule_refusal-in_default.ensures in
    record { found = tt; refused = no_schedule _ _ c.in-Err.fault c.in_default.not-Memory read.only read.exact told }
