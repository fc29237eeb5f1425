use Rattle.std.proofs.Common.{sym, ap, ◌∙◌}
use Rattle.std.specs.Prelude.{◌+◌, length}
use Rattle.fx_text.specs.Token.{Lexeme}
use Rattle.fx_text.specs.TokenView.{view_token}
use Rattle.fx_text.proofs.TokenLaws.{open_from}
use Rattle.fx_text.proofs.part.opening.Goals as goal

pub returns-in-Open-clause-from : goal.returns-in-Open-clause-from
returns-in-Open-clause-from c =
    let is = c.next-lexeme.ensures.lexeme in
    ap (λ (l : Lexeme). length l.rest + 1) is
    ∙ open_from c.args.bytes.now (sym (ap (λ (l : Lexeme). l.token) is) ∙ ap view_token c.in-Open.is)
