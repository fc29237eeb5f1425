use Rattle.std.proofs.Common.{◌≡◌, ◌++◌, length}
use Rattle.fx_term.specs.Script.{total}
use Rattle.fx_text.specs.View.{meaning}
use Rattle.fx_report.specs.Script.{script_of}
use Rattle.fx_command.specs.StoodEvents.{stood_from, stood_events}
use Rattle.fx_command.proofs.ShownCounts.{ShowsWithin}
use Rattle.fx_command.proofs.stood_events.stood_events.Given as goal

-- what is told so far and what is left are all
abbrev pub invariant-loop-next : goal.invariant-loop-next
invariant-loop-next l =
    (l.list.items ++ stood_from l.places l.nodes.items l.so_far l.rest
    ≡ stood_events l.places (total (script_of (meaning l.script))) (length (meaning l.script).queues) l.told)
    × ShowsWithin (length l.told) l.so_far l.rest

abbrev pub decreases-loop-next : goal.decreases-loop-next
decreases-loop-next l = length l.rest
