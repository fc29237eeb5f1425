use Rattle.fx_command.specs.Placed.{unknown}
use Rattle.fx_command.proofs.placed.places_of_blocked.Goals as goal

pub returns-then-is_empty : goal.returns-then-is_empty
returns-then-is_empty c = rw c.new.ensures.items unknown
