use Rattle.fx_model.proofs.WaitingLaws.{waiting_steps}
use Rattle.fx_model.proofs.laws.waits.waits_until_it_has_come.Goals as goal

pub returns : goal.returns
returns c = waiting_steps
