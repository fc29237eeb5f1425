use Rattle.fx_laws.proofs.WithoutTurns.{step_without}
use Rattle.fx_laws.proofs.apart.fibers_step_alike_without_turns.Goals as goal

pub returns : goal.returns
returns ctx c d p q l s = step_without s
