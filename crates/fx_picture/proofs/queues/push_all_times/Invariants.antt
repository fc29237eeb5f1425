use Rattle.std.proofs.Common.{◌≡◌, ◌++◌, string_bytes}
use Rattle.fx_svg.specs.Content.{rendering}
use Rattle.fx_picture.specs.Picture.{all_times}
use Rattle.fx_picture.proofs.queues.push_all_times.Given as goal

-- the lines to the queues so far are written
abbrev pub invariant-loop-queue : goal.invariant-loop-queue
invariant-loop-queue l = string_bytes l.text ≡ string_bytes l.fn.text ++ rendering (all_times l.fibers l.row l.fiber l.list l.queue)
