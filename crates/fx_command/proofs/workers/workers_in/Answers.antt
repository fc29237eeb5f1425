use Rattle.std.proofs.Common.{◌∙◌, sym}
use Rattle.fx_command.proofs.WorkersLaws.{number_in, is_number_in, number_parsed}
use Rattle.fx_command.proofs.workers.workers_in.Goals as goal

pub returns-clause-value : goal.returns-clause-value
returns-clause-value c =
    let all = rw c.as_bytes.ensures.value at (sym c.are_digits.ensures ∙ c.if-not-are_digits.false) in
    c.ok.ensures.value ∙ number_parsed c.args.word.now c.parse.result all c.parse.ensures.value.0

pub returns-clause-number : goal.returns-clause-number
returns-clause-number c n =
    let all = rw c.as_bytes.ensures.value at (sym c.are_digits.ensures ∙ c.if-not-are_digits.false) in
    let is = c.ok.ensures.value ∙ number_parsed c.args.word.now c.parse.result all c.parse.ensures.value.0 in
    (λ h. is ∙ number_in c.args.word.now n h, λ e. is_number_in c.args.word.now n (sym is ∙ e))
