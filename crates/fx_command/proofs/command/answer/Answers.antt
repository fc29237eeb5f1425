use Rattle.std.proofs.lemmas.Result.{err_from_is_err_and}
use Rattle.std.proofs.Common.{◌∙◌}
use Rattle.fx_command.specs.Call.{view_call}
use Rattle.fx_command.proofs.Fetched.{text_kept}
use Rattle.fx_command.proofs.CommandAnswer.{fetches, leaves_no_script, leaves_no_schedule, leaves_no_expected, leaves_unwritten, writes_answer}
use Rattle.fx_command.proofs.Heard.{silent_command, heard_answer}
use Rattle.fx_command.proofs.command.answer.Goals as goal

pub returns-in_err-script-clause-fault : goal.returns-in_err-script-clause-fault
returns-in_err-script-clause-fault g c =
    let fault = err_from_is_err_and c.from_residual.result c.from_residual.ensures.1 in
    rw (fault.1, fault.2) (leaves_no_script (g.F.Files.holds c.args.files.now) (view_call c.args.call) _ _ c.in_err-script.ensures.none)

pub returns-in_err-picks-clause-fault : goal.returns-in_err-picks-clause-fault
returns-in_err-picks-clause-fault g c =
    let fault = err_from_is_err_and c.from_residual-in_err-picks.result c.from_residual-in_err-picks.ensures.1 in
    let kept = text_kept _ _ c.args.call.schedule c.script_of.ensures.kept c.requires.schedule in
    let none = rw kept at c.in_err-picks.ensures.none in
    rw (fault.1, fault.2)
    (leaves_no_schedule (g.F.Files.holds c.args.files.now) (view_call c.args.call) _ _ _ (fetches _ _ _ c.in_ok-script.ensures.found) none)

pub returns-in_err-expected-clause-fault : goal.returns-in_err-expected-clause-fault
returns-in_err-expected-clause-fault g c =
    let fault = err_from_is_err_and c.from_residual-in_err-expected.result c.from_residual-in_err-expected.ensures.1 in
    rw (fault.1, fault.2)
    (leaves_no_expected (g.F.Files.holds c.args.files.now) (view_call c.args.call) _ _ _ (fetches _ _ _ c.in_ok-script.ensures.found)
    c.in_err-expected.ensures.none)

pub perform-requires-clause-says : goal.perform-requires-clause-says
perform-requires-clause-says g c lifetimes lives = rw c.deref.ensures.value c.in_ok-script.ensures.found.says

pub returns-clause-fault : goal.returns-clause-fault
returns-clause-fault g c =
    let has = rw (← c.deref.ensures.value) at c.in_ok-script.ensures.found in
    let kept = text_kept _ _ c.args.call.schedule c.script_of.ensures.kept c.requires.schedule in
    let found = rw (kept, ← c.deref-2.ensures.value) at c.in_ok-picks.ensures.found in
    let still =
    text_kept _ _ c.args.call.expected c.schedule_of.ensures.kept c.requires.expected
    ∙ text_kept _ _ c.args.call.expected c.script_of.ensures.kept c.requires.expected in
    let all = rw (still, ← c.deref-3.ensures.value) at c.in_ok-expected.ensures.found in
    leaves_unwritten (g.F.Files.holds c.args.files.now) (view_call c.args.call) _ _ _ _ c.perform.result c.args.out.now
    c.perform.new.out has found all c.perform.ensures.performs

pub returns-clause-answered : goal.returns-clause-answered
returns-clause-answered g c =
    let has = rw (← c.deref.ensures.value) at c.in_ok-script.ensures.found in
    let kept = text_kept _ _ c.args.call.schedule c.script_of.ensures.kept c.requires.schedule in
    let found = rw (kept, ← c.deref-2.ensures.value) at c.in_ok-picks.ensures.found in
    let still =
    text_kept _ _ c.args.call.expected c.schedule_of.ensures.kept c.requires.expected
    ∙ text_kept _ _ c.args.call.expected c.script_of.ensures.kept c.requires.expected in
    let all = rw (still, ← c.deref-3.ensures.value) at c.in_ok-expected.ensures.found in
    writes_answer (g.F.Files.holds c.args.files.now) (view_call c.args.call) _ _ _ _ c.perform.result c.args.out.now
    c.perform.new.out has found all c.perform.ensures.performs

pub returns-in_err-script-clause-hears : goal.returns-in_err-script-clause-hears
returns-in_err-script-clause-hears g c = silent_command g.G.Progress.hears c.args.progress.now (view_call c.args.call).command

pub returns-in_err-picks-clause-hears : goal.returns-in_err-picks-clause-hears
returns-in_err-picks-clause-hears g c = silent_command g.G.Progress.hears c.args.progress.now (view_call c.args.call).command

pub returns-in_err-expected-clause-hears : goal.returns-in_err-expected-clause-hears
returns-in_err-expected-clause-hears g c = silent_command g.G.Progress.hears c.args.progress.now (view_call c.args.call).command

pub returns-clause-tells : goal.returns-clause-tells
returns-clause-tells g c =
    let still =
    text_kept _ _ c.args.call.expected c.schedule_of.ensures.kept c.requires.expected
    ∙ text_kept _ _ c.args.call.expected c.script_of.ensures.kept c.requires.expected in
    let has = rw (← c.deref.ensures.value) at c.in_ok-script.ensures.found in
    let all = rw (still, ← c.deref-3.ensures.value) at c.in_ok-expected.ensures.found in
    heard_answer g.G.Progress.hears c.args.progress.now c.perform.new.progress (g.F.Files.holds c.args.files.now) (view_call c.args.call) _ _
    c.args.out.now c.perform.new.out c.perform.result (fetches _ _ _ has) all c.perform.ensures.tells
