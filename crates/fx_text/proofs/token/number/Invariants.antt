use Rattle.std.proofs.Common.{drop, ◌<◌, ◌^◌}
use Rattle.fx_text.proofs.NumberLaws.{IsReadTo}
use Rattle.fx_text.proofs.token.number.Given as goal

abbrev pub invariant-loop-b : goal.invariant-loop-b
invariant-loop-b l = IsReadTo l.word (drop l.b-index l.word) l.value × (l.value < 2 ^ 64)
