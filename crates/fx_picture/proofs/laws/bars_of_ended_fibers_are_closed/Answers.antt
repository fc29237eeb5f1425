use Rattle.fx_picture.proofs.BarsClosed.{bar_is_closed}
use Rattle.fx_picture.proofs.laws.bars_of_ended_fibers_are_closed.Goals as goal

pub returns : goal.returns
returns c s may r lawful list order stood = bar_is_closed s may r lawful list order stood
