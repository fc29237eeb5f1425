use Rattle.fx_command.specs.CommandAnswer.TellsUnreadable.{told, no_memory}
use Rattle.fx_command.proofs.command.tell_unreadable.Goals as goal

pub returns-in-Ok : goal.returns-in-Ok
returns-in-Ok g c = told (rw (c.deref.ensures, c.in-Ok.ensures) at c.say.ensures)

pub returns-in-Err : goal.returns-in-Err
returns-in-Err g c = no_memory c.say-in-Err.ensures
