use Rattle.std.proofs.Common.{true}
use Rattle.fx_refusals.proofs.rows.opened.made.Given as goal

abbrev pub ghosts-made_as : goal.ghosts-made_as
ghosts-made_as g a = record { nodes = a.given.now.script.code.nodes; words = a.opened.words; queues = a.opened.queues.items; may = λ _. true }
