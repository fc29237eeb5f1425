use Rattle.fx_model.proofs.ToldStamps.{took_stamp}
use Rattle.fx_model.proofs.laws.stamps.queues_tell_the_stamp_of_the_put.Goals as goal

pub returns : goal.returns
returns c = took_stamp
