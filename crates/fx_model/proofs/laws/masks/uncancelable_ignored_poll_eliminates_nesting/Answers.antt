use Rattle.fx_model.proofs.MaskLaws.{mask_in_mask}
use Rattle.fx_model.proofs.laws.masks.uncancelable_ignored_poll_eliminates_nesting.Goals as goal

pub returns : goal.returns
returns c scope p r t other plain scoped = mask_in_mask scope p t plain r other scoped
