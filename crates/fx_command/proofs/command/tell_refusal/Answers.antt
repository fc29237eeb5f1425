use Rattle.fx_command.specs.CommandAnswer.TellsRefusal.{told, not_taken}
use Rattle.fx_command.proofs.command.tell_refusal.Goals as goal

pub returns-in-Ok : goal.returns-in-Ok
returns-in-Ok g c = told (rw c.deref.ensures at c.in-Ok.ensures.whole) (rw c.deref-in-Ok.ensures at c.say.ensures)

pub returns-in-Err : goal.returns-in-Err
returns-in-Err g c = not_taken (rw c.deref.ensures at c.in-Err.ensures.part) c.say-in-Err.ensures
