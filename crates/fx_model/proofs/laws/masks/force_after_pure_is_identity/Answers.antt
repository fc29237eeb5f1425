use Rattle.fx_model.proofs.ForcedTerms.{forced_shows_all, forced_is_identity}
use Rattle.fx_model.proofs.laws.masks.force_after_pure_is_identity.Goals as goal

pub returns-clause-same : goal.returns-clause-same
returns-clause-same c = forced_is_identity

pub returns-clause-all : goal.returns-clause-all
returns-clause-all c = forced_shows_all
