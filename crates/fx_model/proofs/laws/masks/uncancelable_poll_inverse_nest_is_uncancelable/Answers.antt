use Rattle.fx_model.proofs.MaskLaws.{inverse_polls}
use Rattle.fx_model.proofs.laws.masks.uncancelable_poll_inverse_nest_is_uncancelable.Goals as goal

pub returns : goal.returns
returns c scope p r t other plain scoped = inverse_polls scope p t plain r other scoped
