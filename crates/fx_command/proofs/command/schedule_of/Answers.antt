use Rattle.std.proofs.Common.{◌≡◌, Some, [], refl}
use Rattle.fx_text.specs.Schedule.{IsSchedule}
use Rattle.fx_command.specs.Refused.{IsNoSchedule}
use Rattle.fx_command.proofs.Fetched.{most_of_schedule, if_fetched, if_not_fetched, schedule_of_prefix, no_schedule_of_prefix, empty_schedule}
use Rattle.fx_command.proofs.command.schedule_of.Goals as goal

pub returns-in_default-clause-found : goal.returns-in_default-clause-found
returns-in_default-clause-found g c = rw (c.in_default.is, c.new.ensures.items) (record { text = []; is = refl; holds = empty_schedule })

pub returns-clause-found : goal.returns-clause-found
returns-clause-found g c =
    let read = rw (← c.deref.ensures.value) at c.in_ok-text.ensures.text in
    let found = if_fetched (λ picks text. IsSchedule text picks.items) most_of_schedule _ _ c.picks_in.result (λ picks. schedule_of_prefix picks.items) read
    c.picks_in.ensures.found in
    rw c.in-Some.is found

pub returns-clause-none : goal.returns-clause-none
returns-clause-none g c =
    let read = rw (← c.deref.ensures.value) at c.in_ok-text.ensures.text in
    let none = if_not_fetched (λ n. Some c.in-Some.name.now ≡ Some n) IsNoSchedule most_of_schedule _ _ c.picks_in.result no_schedule_of_prefix read
    c.picks_in.ensures.refused in
    rw c.in-Some.is none
