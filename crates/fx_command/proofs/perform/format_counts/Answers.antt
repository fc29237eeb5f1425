use Rattle.std.proofs.Common.{append_assoc}
use Rattle.fx_command.proofs.perform.format_counts.Goals as goal

pub returns : goal.returns
returns c = simp append_assoc c.format.ensures.ok
