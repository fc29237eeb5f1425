use Rattle.std.proofs.Common.{◌≡◌, ◌∙◌, ◌++◌, ℕ, List, OnOk, ap, subst, sym, append_assoc, string_bytes}
use Rattle.std.specs.Prelude.{codes}
use Rattle.fx_text.specs.View.{meaning}
use Rattle.fx_report.specs.Text.{names_of, queue_names, event_text}
use Rattle.fx_report.proofs.QueueNames.{names_of_meaning}
use Rattle.fx_command.proofs.told_text.push_shown.Goals as goal

pub returns : goal.returns
returns c =
    let script = c.args.script.now in
    let names : queue_names (meaning script) ≡ names_of c.deref.result.now = names_of_meaning script ∙ sym (ap names_of c.deref.ensures.value) in
    let event = event_text (names_of c.deref.result.now) c.in-Some.event in
    rw (c.in-Some.is, names) (subst (λ (t : List ℕ). OnOk c.push_event.result (string_bytes c.push_event.new.text ≡ t))
    (ap (λ (t : List ℕ). t ++ event) c.in_ok-push_str.ensures.bytes ∙ append_assoc (string_bytes c.args.text.now) (codes " ") event) c.push_event.ensures)
