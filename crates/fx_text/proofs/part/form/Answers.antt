use Rattle.std.proofs.Common.{◌≡◌, Option, None, List, ℕ, Bor, refl, sym, ◌∙◌, ap}
use Rattle.fx_text.specs.declared.form.Form.{Form}
use Rattle.fx_text.specs.declared.fault.TextKind.TheVariants as kind
use Rattle.fx_text.specs.declared.token.Token.{Token as CodeToken}
use Rattle.fx_text.specs.declared.token.Token.TheVariants as code
use Rattle.fx_text.specs.Token.{Lexeme, next}
use Rattle.fx_text.specs.TokenView.{view_token, view_lexeme}
use Rattle.fx_text.specs.Part.{form_of}
use Rattle.fx_text.specs.Reading.{known, form_at}
use Rattle.fx_text.proofs.part.form.Goals as goal

-- what is read, by the token that is next and the form that its name says
form_known : (bytes : List ℕ) (l : Lexeme) (form : Option Form) → l ≡ next bytes → form_of l.token ≡ form → form_at bytes ≡ known kind.Form l form
unfolding form_at
form_known bytes l form is found = ap (λ (k : Lexeme). known kind.Form k (form_of k.token)) (sym is) ∙ ap (known kind.Form l) found

-- a token that is no name says none
not_named : (t : CodeToken) → ((x : Bor (List ℕ)) → t ≡ code.Name x → ⊥) → form_of (view_token t) ≡ None
not_named (code.Name x) not = absurd (not x refl)
not_named _ not = refl

pub returns-in-None-clause-read : goal.returns-in-None-clause-read
returns-in-None-clause-read c = rw c.refused.ensures
    (form_known c.args.bytes.now (view_lexeme c.next-lexeme.result) None c.next-lexeme.ensures.lexeme
    (ap (λ (t : CodeToken). form_of (view_token t)) c.in-Name.is ∙ sym c.of_word.ensures ∙ c.in-None.is))

pub returns-in-Some-clause-read : goal.returns-in-Some-clause-read
returns-in-Some-clause-read c =
    form_known c.args.bytes.now (view_lexeme c.next-lexeme.result) c.of_word.result c.next-lexeme.ensures.lexeme
    (ap (λ (t : CodeToken). form_of (view_token t)) c.in-Name.is ∙ sym c.of_word.ensures)
    ∙ ap (known kind.Form (view_lexeme c.next-lexeme.result)) c.in-Some.is

pub returns-in_default : goal.returns-in_default
returns-in_default c = record {
  read = rw c.refused-in_default.ensures
      (form_known c.args.bytes.now (view_lexeme c.next-lexeme.result) None c.next-lexeme.ensures.lexeme
      (not_named c.next-lexeme.result.token c.in_default.not-Name));
  shorter = tt;
}
