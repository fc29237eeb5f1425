use Rattle.fx_model.proofs.MaskPairs.{mask_has_its_poll, sealed_is_not_paired}
use Rattle.fx_model.proofs.laws.cancellation.each_mask_has_its_poll.Goals as goal

pub returns-clause-mask : goal.returns-clause-mask
returns-clause-mask c = mask_has_its_poll

pub returns-clause-seal : goal.returns-clause-seal
returns-clause-seal c = sealed_is_not_paired
