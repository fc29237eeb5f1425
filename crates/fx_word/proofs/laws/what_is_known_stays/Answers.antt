use Rattle.fx_word.proofs.Known.{changes_keep}
use Rattle.fx_word.proofs.laws.what_is_known_stays.Goals as goal

pub returns : goal.returns
returns c = changes_keep
