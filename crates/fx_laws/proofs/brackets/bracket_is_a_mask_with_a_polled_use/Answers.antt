use Rattle.fx_laws.proofs.BracketLaws.{bracket_looks_like_all, bracket_looks_the_same}
use Rattle.fx_laws.proofs.brackets.bracket_is_a_mask_with_a_polled_use.Goals as goal

pub returns-clause-same : goal.returns-clause-same
returns-clause-same c = bracket_looks_the_same

pub returns-clause-all : goal.returns-clause-all
returns-clause-all c = bracket_looks_like_all
