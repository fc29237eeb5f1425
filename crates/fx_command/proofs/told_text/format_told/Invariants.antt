use Rattle.std.proofs.Common.{◌≡◌, ◌+◌, ◌≤◌, ◌++◌, length}
use Rattle.std.specs.Prelude.{All, string_bytes}
use Rattle.fx_term.specs.Script.{total}
use Rattle.fx_text.specs.View.{meaning}
use Rattle.fx_report.specs.Script.{script_of}
use Rattle.fx_report.specs.Text.{queue_names}
use Rattle.fx_plain.specs.ToldRun.{IsToldAtQueueBelow}
use Rattle.fx_command.specs.ToldText.{told_text, steps_text}
use Rattle.fx_command.proofs.told_text.format_told.Given as goal

-- what is left is to be appended
abbrev pub invariant-loop-next : goal.invariant-loop-next
invariant-loop-next l =
    (string_bytes l.text ++ told_text (queue_names (meaning l.script)) l.places l.stood.items l.number l.rest
    ≡ steps_text (queue_names (meaning l.script)) l.places (total (script_of (meaning l.script))) l.told)
    × All (IsToldAtQueueBelow (length (queue_names (meaning l.script)))) l.rest
    × (l.number + length l.rest ≤ 1 + length l.told)

abbrev pub decreases-loop-next : goal.decreases-loop-next
decreases-loop-next l = length l.rest
