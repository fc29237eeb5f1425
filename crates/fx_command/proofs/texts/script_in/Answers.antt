use Rattle.std.proofs.lemmas.Result.{err_from_is_err_and}
use Rattle.fx_command.proofs.Refused.{no_script}
use Rattle.fx_command.proofs.texts.script_in.Goals as goal

pub returns-in_err-script_refusal-in_default : goal.returns-in_err-script_refusal-in_default
returns-in_err-script_refusal-in_default c =
    let fault = err_from_is_err_and c.from_residual.result c.from_residual.ensures.1 in
    rw (fault.1, fault.2) (record { found = tt; queues = tt; refused = tt })

pub returns-in_ok-script_refusal-in_default : goal.returns-in_ok-script_refusal-in_default
returns-in_ok-script_refusal-in_default c =
    let read = c.in-Err.ensures in
    let told = c.in_ok-script_refusal-in_default.ensures in
    record { found = tt; queues = tt; refused = no_script _ _ c.in-Err.fault c.in_default.not-Memory read.only read.exact told }
