use Rattle.std.proofs.Common.{◌≡◌, ◌++◌, length, string_bytes}
use Rattle.fx_svg.specs.Content.{rendering}
use Rattle.fx_picture.specs.Picture.{arrows_to}
use Rattle.fx_picture.proofs.arrows.push_arrows_to.Given as goal

-- what is written so far, and the other arrows, are all
abbrev pub invariant-loop-it : goal.invariant-loop-it
invariant-loop-it l =
    string_bytes l.text ++ rendering (arrows_to l.fibers l.told l.to l.rest)
    ≡ string_bytes l.fn.text ++ rendering (arrows_to l.fibers l.told l.to l.above)

abbrev pub decreases-loop-it : goal.decreases-loop-it
decreases-loop-it l = length l.rest
