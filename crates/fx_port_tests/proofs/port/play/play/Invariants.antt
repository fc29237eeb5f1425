use Rattle.std.proofs.Common.{true}
use Rattle.fx_port_tests.proofs.port.play.play.Given as goal

abbrev pub ghosts-play_as : goal.ghosts-play_as
ghosts-play_as g a = record { nodes = a.code.now.nodes; words = a.opened.words; queues = a.opened.queues.items; may = λ _. true }
