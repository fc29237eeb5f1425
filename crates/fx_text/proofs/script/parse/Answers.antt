use Rattle.fx_text.proofs.ScriptLaws.{answer_found, answer_only}
use Rattle.fx_text.proofs.script.parse.Goals as goal

pub returns-clause-found : goal.returns-clause-found
returns-clause-found c = answer_found c.args.text.now c.read_all.result c.read_all.ensures.read

pub returns-clause-only : goal.returns-clause-only
returns-clause-only c = answer_only c.args.text.now c.read_all.result c.read_all.ensures.read
