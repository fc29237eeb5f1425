use Rattle.std.proofs.Common.{◌≡◌}
use Rattle.std.proofs.lemmas.Result.{err_from_is_err_and}
use Rattle.fx_report.specs.Answering.{most_read}
use Rattle.fx_command.specs.Refused.{IsNoScript}
use Rattle.fx_command.proofs.Fetched.{not_fetched, read_script, no_script_of_prefix}
use Rattle.fx_command.proofs.command.script_of.Goals as goal

pub returns-clause-found : goal.returns-clause-found
returns-clause-found g c =
    read_script _ _ _ c.in_ok-text.ensures.text (rw c.deref.ensures.value at c.in_ok-script.ensures.found)

pub returns-in_err-script-clause-none : goal.returns-in_err-script-clause-none
returns-in_err-script-clause-none g c =
    let fault = err_from_is_err_and c.from_residual-in_err-script.result c.from_residual-in_err-script.ensures.1 in
    let read = rw (← c.deref.ensures.value) at c.in_ok-text.ensures.text in
    rw (fault.1, fault.2)
    (not_fetched (λ n. n ≡ c.args.name.now) IsNoScript most_read _ _ _ no_script_of_prefix read c.in_err-script.ensures.refused)
