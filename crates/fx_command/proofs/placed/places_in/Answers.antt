use Rattle.fx_command.specs.Placed.{known, unknown}
use Rattle.fx_command.proofs.placed.places_in.Goals as goal

pub returns-in-Ok : goal.returns-in-Ok
returns-in-Ok c = known c.in-Ok.ensures

pub returns-in-Err-Unfit : goal.returns-in-Err-Unfit
returns-in-Err-Unfit c = rw c.new.ensures.items unknown
