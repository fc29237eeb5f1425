use Rattle.fx_term.proofs.CoreTerms.{code_is_core}
use Rattle.fx_model.proofs.laws.resources.code_is_core.Goals as goal

pub returns : goal.returns
returns c queues = code_is_core
