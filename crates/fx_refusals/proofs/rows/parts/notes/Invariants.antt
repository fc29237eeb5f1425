use Rattle.std.proofs.Common.{[], true}
use Rattle.fx_port.specs.PortView.{no_words}
use Rattle.fx_refusals.proofs.rows.parts.notes.Given as goal

abbrev pub ghosts-notes_as : goal.ghosts-notes_as
ghosts-notes_as a = record { nodes = []; words = record no_words { fibers = 3 }; queues = []; may = λ _. true }
