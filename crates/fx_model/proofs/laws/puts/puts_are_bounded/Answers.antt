use Rattle.fx_model.proofs.PutsLaws.{run_puts}
use Rattle.fx_model.proofs.laws.puts.puts_are_bounded.Goals as goal

pub returns : goal.returns
returns c = run_puts
