-- What the tokens of the code stand for.
use Rattle.fx_text.specs.declared.token.Token.{Token as CodeToken}
use Rattle.fx_text.specs.declared.token.Token.TheVariants as code
use Rattle.fx_text.specs.declared.token.Lexeme.{Lexeme as CodeLexeme}
use Rattle.fx_text.specs.Token.{Token, Open, Close, Number, Name, Stray, Misnumber, End, Lexeme}

abbrev pub view_token : CodeToken → Token
view_token code.Open = Open
view_token code.Close = Close
view_token (code.Number n) = Number n
view_token (code.Name x) = Name x.now
view_token code.Stray = Stray
view_token code.Misnumber = Misnumber
view_token code.End = End

abbrev pub view_lexeme : CodeLexeme → Lexeme
view_lexeme l = record { token = view_token l.token; from = l.from; rest = l.rest.now }

-- the fact, unless the token is the end of the text
abbrev pub IfToken : CodeToken → Type 0 → Type 0
IfToken code.End P = Unit {0}
IfToken _ P = P
