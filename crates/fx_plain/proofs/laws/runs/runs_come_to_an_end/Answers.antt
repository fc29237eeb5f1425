use Rattle.fx_plain.proofs.WholeMachineWork.{run_is_bounded}
use Rattle.fx_plain.proofs.laws.runs.runs_come_to_an_end.Goals as goal

pub returns : goal.returns
returns c = run_is_bounded
