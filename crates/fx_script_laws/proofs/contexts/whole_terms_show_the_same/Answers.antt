use Rattle.fx_script_laws.proofs.WholeTerms.{whole_shows}
use Rattle.fx_script_laws.proofs.contexts.whole_terms_show_the_same.Goals as goal

pub returns : goal.returns
returns c = whole_shows
