use Rattle.fx_model.proofs.PlainCode.{code_is_plain}
use Rattle.fx_model.proofs.laws.masks.code_is_plain.Goals as goal

pub returns : goal.returns
returns c queues = code_is_plain
