use Rattle.fx_script_laws.proofs.WholeTerms.{shows_where, waits_where}
use Rattle.fx_script_laws.proofs.contexts.whole_terms_come_to_the_same_where.Goals as goal

pub returns-clause-shows : goal.returns-clause-shows
returns-clause-shows c there own t u a b = shows_where own t u a b there

pub returns-clause-waits : goal.returns-clause-waits
returns-clause-waits c there own t u a b = waits_where own t u a b there
