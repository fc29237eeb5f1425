use Rattle.std.specs.Prelude.{◌≡◌, take}
use Rattle.fx_counts.proofs.ByRank.{its}
use Rattle.fx_counts.proofs.reordered.with_ranks.Given as goal

abbrev pub invariant-loop-place : goal.invariant-loop-place
invariant-loop-place l = its l.all.items ≡ take l.place l.list
