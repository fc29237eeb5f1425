use Rattle.std.proofs.Common.{◌≡◌, ◌++◌, string_bytes}
use Rattle.fx_report.specs.Text.{names_of}
use Rattle.fx_svg.specs.Content.{rendering}
use Rattle.fx_picture.specs.Picture.{marks_in}
use Rattle.fx_picture.proofs.marks.push_marks.Given as goal

-- the marks of the rows so far are written
abbrev pub invariant-loop-row : goal.invariant-loop-row
invariant-loop-row l = string_bytes l.text ≡ string_bytes l.fn.text ++ rendering (marks_in (names_of l.queues) l.stood l.fibers l.drawn l.row)
