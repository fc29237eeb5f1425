use Rattle.fx_model.proofs.MaskLaws.{masked_finalizer}
use Rattle.fx_model.proofs.laws.masks.uncancelable_cancels_associated_finalizer.Goals as goal

pub returns : goal.returns
returns c scope p t f plain scoped = masked_finalizer scope p t plain scoped f
