use Rattle.fx_script_laws.proofs.WholeTerms.{whole_waits}
use Rattle.fx_script_laws.proofs.contexts.whole_terms_wait_for_the_same.Goals as goal

pub returns : goal.returns
returns c = whole_waits
