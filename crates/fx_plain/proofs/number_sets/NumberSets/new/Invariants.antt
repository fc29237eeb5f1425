use Rattle.std.proofs.Common.{◌≡◌, ℕ, false, length}
use Rattle.fx_plain.specs.NumberSet.{is_member_of}
use Rattle.fx_plain.proofs.number_sets.NumberSets.new.Given as goal

abbrev pub invariant-loop-set : goal.invariant-loop-set
invariant-loop-set l = (length l.sets.items ≡ l._set) × ((i n : ℕ) → is_member_of l.sets.items i n ≡ false)
