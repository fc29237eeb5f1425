use Rattle.std.proofs.Common.{◌≡◌, ◌++◌, length}
use Rattle.fx_picture.specs.Handles.{view_handles}
use Rattle.fx_command.specs.HandlesTold.{named_told}
use Rattle.fx_command.proofs.handles.handles_of.Given as goal

-- what is named so far and what is left are all
abbrev pub invariant-loop-next : goal.invariant-loop-next
invariant-loop-next l =
    view_handles l.handles.items ++ named_told l.source l.places l.rest ≡ named_told l.source l.places l.told

abbrev pub decreases-loop-next : goal.decreases-loop-next
decreases-loop-next l = length l.rest
