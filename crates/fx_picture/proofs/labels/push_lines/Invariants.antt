use Rattle.std.proofs.Common.{◌≡◌, ◌++◌, length, string_bytes}
use Rattle.fx_report.specs.Text.{names_of}
use Rattle.fx_picture.specs.Labels.{line_words}
use Rattle.fx_picture.proofs.labels.push_lines.Given as goal

-- what is written so far, and the other lines, are all
abbrev pub invariant-loop-it : goal.invariant-loop-it
invariant-loop-it l =
    string_bytes l.text ++ line_words (names_of l.queues) l.stood l.rest ≡ string_bytes l.fn.text ++ line_words (names_of l.queues) l.stood l.list

abbrev pub decreases-loop-it : goal.decreases-loop-it
decreases-loop-it l = length l.rest
