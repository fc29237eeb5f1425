use Rattle.fx_port.proofs.Gathers.{joined_rows}
use Rattle.fx_port.proofs.gathering.gather.Goals as goal

pub returns-clause-row : goal.returns-clause-row
returns-clause-row g c = rw c.gather-2.ensures (joined_rows _ _ _ c.requires.queues.1)
