use Rattle.std.proofs.Common.{◌≡◌, ◌++◌, length}
use Rattle.std.specs.List.{flat_map}
use Rattle.fx_picture.specs.Handles.{view_handles}
use Rattle.fx_command.specs.HandlesTold.{named_at}
use Rattle.fx_command.proofs.handles.handles_of_run.Given as goal

-- what is named so far and what is left are all
abbrev pub invariant-loop-next : goal.invariant-loop-next
invariant-loop-next l =
    view_handles l.handles.items ++ flat_map (named_at l.source l.places) l.rest ≡ flat_map (named_at l.source l.places) l.events

abbrev pub decreases-loop-next : goal.decreases-loop-next
decreases-loop-next l = length l.rest
