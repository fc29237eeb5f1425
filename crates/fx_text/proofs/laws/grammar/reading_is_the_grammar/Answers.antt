use Rattle.fx_text.proofs.ScriptLaws.{reading_law}
use Rattle.fx_text.proofs.laws.grammar.reading_is_the_grammar.Goals as goal

pub returns : goal.returns
returns c = reading_law
