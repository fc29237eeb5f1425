use Rattle.std.proofs.Common.{◌≡◌, ◌++◌, string_bytes}
use Rattle.fx_svg.specs.Content.{rendering}
use Rattle.fx_picture.specs.Picture.{names_again}
use Rattle.fx_picture.proofs.lanes.push_names_again.Given as goal

-- what is said so far is written
abbrev pub invariant-loop-band : goal.invariant-loop-band
invariant-loop-band l = string_bytes l.text ≡ string_bytes l.fn.text ++ rendering (names_again l.lane l.words l.band)
