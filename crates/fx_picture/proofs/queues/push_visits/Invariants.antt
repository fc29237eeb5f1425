use Rattle.std.proofs.Common.{◌≡◌, ◌++◌, string_bytes}
use Rattle.fx_svg.specs.Content.{rendering}
use Rattle.fx_picture.specs.Picture.{visits_in}
use Rattle.fx_picture.proofs.queues.push_visits.Given as goal

-- what the events of the rows so far do is written
abbrev pub invariant-loop-row : goal.invariant-loop-row
invariant-loop-row l = string_bytes l.text ≡ string_bytes l.fn.text ++ rendering (visits_in l.stood l.fibers l.queues l.drawn l.row)
