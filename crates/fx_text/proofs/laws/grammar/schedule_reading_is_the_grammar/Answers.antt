use Rattle.fx_text.proofs.ScheduleLaws.{schedule_law}
use Rattle.fx_text.proofs.laws.grammar.schedule_reading_is_the_grammar.Goals as goal

pub returns : goal.returns
returns c = schedule_law
