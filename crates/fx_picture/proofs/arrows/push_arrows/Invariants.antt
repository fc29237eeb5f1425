use Rattle.std.proofs.Common.{◌≡◌, ◌+◌, ◌++◌, length, string_bytes}
use Rattle.fx_svg.specs.Content.{rendering}
use Rattle.fx_picture.specs.Picture.{arrows_from}
use Rattle.fx_picture.proofs.arrows.push_arrows.Given as goal

-- what is written so far, and the other arrows, are all
abbrev pub invariant-loop-it : goal.invariant-loop-it
invariant-loop-it l = record {
  places : l.place + length l.rest ≡ length l.list;
  written : string_bytes l.text ++ rendering (arrows_from l.stood l.fibers l.list l.place l.rest)
      ≡ string_bytes l.fn.text ++ rendering (arrows_from l.stood l.fibers l.list 0 l.list);
}

abbrev pub decreases-loop-it : goal.decreases-loop-it
decreases-loop-it l = length l.rest
