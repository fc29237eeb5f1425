use Rattle.std.specs.Prelude.{◌≡◌, take}
use Rattle.fx_counts.proofs.ByRank.{its}
use Rattle.fx_counts.proofs.reordered.by_rank.Given as goal

abbrev pub invariant-loop-x : goal.invariant-loop-x
invariant-loop-x l = l.other.items ≡ its (take l.x-index l.x-items)
