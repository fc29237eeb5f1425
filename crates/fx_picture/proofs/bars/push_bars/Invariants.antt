use Rattle.std.proofs.Common.{◌≡◌, ◌++◌, length, string_bytes}
use Rattle.fx_svg.specs.Content.{rendering}
use Rattle.fx_picture.specs.Picture.{bars_from}
use Rattle.fx_picture.proofs.bars.push_bars.Given as goal

-- what is written so far, and the other bars, are all
abbrev pub invariant-loop-it : goal.invariant-loop-it
invariant-loop-it l =
    string_bytes l.text ++ rendering (bars_from l.stood l.fibers l.rows l.rest)
    ≡ string_bytes l.fn.text ++ rendering (bars_from l.stood l.fibers l.rows l.list)

abbrev pub decreases-loop-it : goal.decreases-loop-it
decreases-loop-it l = length l.rest
