use Rattle.std.proofs.Common.{◌≡◌, Some, None, refl, sym, ◌∙◌, ap, subst, map, option_map, string_bytes}
use Rattle.std.proofs.lemmas.Option.{same_Some}
use Rattle.fx_command.specs.Call.{CallView, view_call}
use Rattle.fx_command.specs.Heard.{HearsAnswer}
use Rattle.fx_command.specs.CommandAnswer.Runs.{helped, other_words, answered, no_memory, not_taken}
use Rattle.fx_command.proofs.CommandAnswer.{call_is, refusal_runs, refused_is, unread_runs, unread_is, run_fault_runs, run_fault_is}
use Rattle.fx_command.specs.Call.{call_of}
use Rattle.fx_command.proofs.Heard.{silent_call, heard_call}
use Rattle.fx_command.proofs.command.command.Goals as goal

pub returns-in-Some-clause-runs : goal.returns-in-Some-clause-runs
returns-in-Some-clause-runs g c = helped c.in-Some.topic.now (sym c.topic_of.ensures ∙ ap (option_map (λ topic. topic.now)) c.in-Some.is) c.tell_page.ensures

pub returns-in_default-of-clause-runs : goal.returns-in_default-of-clause-runs
returns-in_default-of-clause-runs g c =
    let unasked = sym c.topic_of.ensures ∙ ap (option_map (λ topic. topic.now)) c.in_default.is in
    let uncalled = sym c.of.ensures.call ∙ ap (option_map view_call) c.in_default-of.is in
    other_words unasked uncalled refl c.say.ensures

pub returns-in-Ok-clause-runs : goal.returns-in-Ok-clause-runs
returns-in-Ok-clause-runs g c =
    let call = c.in-Some-of.call in
    let is = call_is (map string_bytes c.args.words.now) _ call c.of.ensures.call c.in-Some-of.is in
    answered (view_call call) is c.in-Ok.ensures.answered (rw c.deref.ensures at c.say-in-Ok.ensures)

pub returns-in-Refused-clause-runs : goal.returns-in-Refused-clause-runs
returns-in-Refused-clause-runs g c =
    let words = map string_bytes c.args.words.now in
    let call = c.in-Some-of.call in
    let is = call_is words _ call c.of.ensures.call c.in-Some-of.is in
    let left = rw c.in-Refused.is at c.in-Err.ensures.fault in
    refusal_runs words _ (view_call call) c.in-Refused.refusal _ _ _ _ _ _ is left c.tell_refusal.ensures

pub returns-in-Unreadable-clause-runs : goal.returns-in-Unreadable-clause-runs
returns-in-Unreadable-clause-runs g c =
    let words = map string_bytes c.args.words.now in
    let call = c.in-Some-of.call in
    let is = call_is words _ call c.of.ensures.call c.in-Some-of.is in
    let left = rw c.in-Unreadable.is at c.in-Err.ensures.fault in
    unread_runs words _ (view_call call) _ _ _ _ _ _ is left c.tell_unreadable.ensures

pub returns-in-Memory-clause-runs : goal.returns-in-Memory-clause-runs
returns-in-Memory-clause-runs g c =
    let call = c.in-Some-of.call in
    let is = call_is (map string_bytes c.args.words.now) _ call c.of.ensures.call c.in-Some-of.is in
    let kept = rw c.in-Memory.is at c.in-Err.ensures.fault in
    no_memory (view_call call) is kept c.say-in-Memory.ensures

pub returns-in-Run-clause-runs : goal.returns-in-Run-clause-runs
returns-in-Run-clause-runs g c =
    let words = map string_bytes c.args.words.now in
    let call = c.in-Some-of.call in
    let is = call_is words _ call c.of.ensures.call c.in-Some-of.is in
    let left = rw c.in-Run.is at c.in-Err.ensures.fault in
    run_fault_runs words _ (view_call call) _ _ _ _ _ _ is left c.tell_run_fault.ensures

pub returns-clause-runs : goal.returns-clause-runs
returns-clause-runs g c =
    let call = c.in-Some-of.call in
    let is = call_is (map string_bytes c.args.words.now) _ call c.of.ensures.call c.in-Some-of.is in
    let part = rw c.in-Write.is at c.in-Err.ensures.fault in
    not_taken {remark = part.0} (view_call call) is part.1 c.say-in-Write.ensures

pub returns-in-Some-clause-hears : goal.returns-in-Some-clause-hears
returns-in-Some-clause-hears g c = silent_call g.G.Progress.hears c.args.progress.now (call_of (map string_bytes c.args.words.now))

pub returns-in_default-of-clause-hears : goal.returns-in_default-of-clause-hears
returns-in_default-of-clause-hears g c = silent_call g.G.Progress.hears c.args.progress.now (call_of (map string_bytes c.args.words.now))

pub returns-in-Ok-clause-hears : goal.returns-in-Ok-clause-hears
returns-in-Ok-clause-hears g c =
    let call = c.in-Some-of.call in
    let words = call_of (map string_bytes c.args.words.now) in
    heard_call g.G.Progress.hears c.args.progress.now c.answer.new.progress call words
    (call_is (map string_bytes c.args.words.now) _ call c.of.ensures.call c.in-Some-of.is) c.answer.ensures.hears

pub returns-in-Refused-clause-hears : goal.returns-in-Refused-clause-hears
returns-in-Refused-clause-hears g c =
    let call = c.in-Some-of.call in
    let words = call_of (map string_bytes c.args.words.now) in
    heard_call g.G.Progress.hears c.args.progress.now c.answer.new.progress call words
    (call_is (map string_bytes c.args.words.now) _ call c.of.ensures.call c.in-Some-of.is) c.answer.ensures.hears

pub returns-in-Unreadable-clause-hears : goal.returns-in-Unreadable-clause-hears
returns-in-Unreadable-clause-hears g c =
    let call = c.in-Some-of.call in
    let words = call_of (map string_bytes c.args.words.now) in
    heard_call g.G.Progress.hears c.args.progress.now c.answer.new.progress call words
    (call_is (map string_bytes c.args.words.now) _ call c.of.ensures.call c.in-Some-of.is) c.answer.ensures.hears

pub returns-in-Memory-clause-hears : goal.returns-in-Memory-clause-hears
returns-in-Memory-clause-hears g c =
    let call = c.in-Some-of.call in
    let words = call_of (map string_bytes c.args.words.now) in
    heard_call g.G.Progress.hears c.args.progress.now c.answer.new.progress call words
    (call_is (map string_bytes c.args.words.now) _ call c.of.ensures.call c.in-Some-of.is) c.answer.ensures.hears

pub returns-in-Run-clause-hears : goal.returns-in-Run-clause-hears
returns-in-Run-clause-hears g c =
    let call = c.in-Some-of.call in
    let words = call_of (map string_bytes c.args.words.now) in
    heard_call g.G.Progress.hears c.args.progress.now c.answer.new.progress call words
    (call_is (map string_bytes c.args.words.now) _ call c.of.ensures.call c.in-Some-of.is) c.answer.ensures.hears

pub returns-clause-hears : goal.returns-clause-hears
returns-clause-hears g c =
    let call = c.in-Some-of.call in
    let words = call_of (map string_bytes c.args.words.now) in
    heard_call g.G.Progress.hears c.args.progress.now c.answer.new.progress call words
    (call_is (map string_bytes c.args.words.now) _ call c.of.ensures.call c.in-Some-of.is) c.answer.ensures.hears

pub returns-in-Some-clause-tells : goal.returns-in-Some-clause-tells
returns-in-Some-clause-tells g c = λ call none is ends.
    absurd (let no : Some c.in-Some.topic.now ≡ None = sym (sym c.topic_of.ensures ∙ ap (option_map (λ topic. topic.now)) c.in-Some.is) ∙ none in cc)

pub returns-in_default-of-clause-tells : goal.returns-in_default-of-clause-tells
returns-in_default-of-clause-tells g c = λ call none is ends.
    absurd (let no : None ≡ Some call = sym (sym c.of.ensures.call ∙ ap (option_map view_call) c.in_default-of.is) ∙ is in cc)

pub returns-in-Ok-clause-tells : goal.returns-in-Ok-clause-tells
returns-in-Ok-clause-tells g c = λ call none is ends.
    let made = c.in-Some-of.call in
    let same : view_call made ≡ call =
    same_Some (view_call made) call (sym (call_is (map string_bytes c.args.words.now) _ made c.of.ensures.call c.in-Some-of.is) ∙ is) in
    subst (λ (it : CallView). HearsAnswer g.G.Progress.hears c.args.progress.now c.answer.new.progress (g.F.Files.holds c.args.files.now) it
    c.args.out.now c.answer.new.out) same c.in-Ok.ensures.tells

pub returns-in-Refused-clause-tells : goal.returns-in-Refused-clause-tells
returns-in-Refused-clause-tells g c = λ call none is ends. absurd (refused_is _ _ _ _ _ _ _ c.tell_refusal.ensures ends)

pub returns-in-Unreadable-clause-tells : goal.returns-in-Unreadable-clause-tells
returns-in-Unreadable-clause-tells g c = λ call none is ends. absurd (unread_is _ _ _ _ c.tell_unreadable.ensures ends)

pub returns-in-Memory-clause-tells : goal.returns-in-Memory-clause-tells
returns-in-Memory-clause-tells g c = λ call none is ends. absurd (ends.2 refl)

pub returns-in-Run-clause-tells : goal.returns-in-Run-clause-tells
returns-in-Run-clause-tells g c = λ call none is ends. absurd (run_fault_is _ _ _ _ c.tell_run_fault.ensures ends)

pub returns-clause-tells : goal.returns-clause-tells
returns-clause-tells g c = λ call none is ends. absurd (ends.2 refl)
