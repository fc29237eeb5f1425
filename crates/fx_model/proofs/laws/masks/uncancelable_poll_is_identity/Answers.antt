use Rattle.fx_model.proofs.MaskLaws.{own_poll_shows_all, own_poll_is_identity}
use Rattle.fx_model.proofs.laws.masks.uncancelable_poll_is_identity.Goals as goal

pub returns-clause-same : goal.returns-clause-same
returns-clause-same c scope p t plain scoped = own_poll_is_identity scope p t plain scoped

pub returns-clause-all : goal.returns-clause-all
returns-clause-all c scope p t plain scoped = own_poll_shows_all scope p t plain scoped
