use Rattle.fx_run_events.specs.Found.{followed, not_followed}
use Rattle.fx_run_events.proofs.stands.stands_told.Goals as goal

pub returns-then-not-are_few : goal.returns-then-not-are_few
returns-then-not-are_few c = rw c.new.ensures.items not_followed

pub returns-in-Some : goal.returns-in-Some
returns-in-Some c = followed (rw c.in-Some.is at c.in_ok-told.ensures)

pub returns-in-None : goal.returns-in-None
returns-in-None c = rw c.new-in-None.ensures.items not_followed
