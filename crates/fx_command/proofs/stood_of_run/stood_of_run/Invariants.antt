use Rattle.std.proofs.Common.{◌≡◌, map, take}
use Rattle.fx_command.specs.StoodOfRun.{stood_by}
use Rattle.fx_command.proofs.stood_of_run.stood_of_run.Given as goal

abbrev pub invariant-loop-event : goal.invariant-loop-event
invariant-loop-event l = l.list.items ≡ map (stood_by l.places) (take l.event-index l.events)
