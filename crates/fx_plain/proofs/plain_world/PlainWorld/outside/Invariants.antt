use Rattle.std.proofs.Common.{◌≡◌, false, slice_index_or}
use Rattle.std.specs.List.{filter, range_with_len}
use Rattle.fx_plain.proofs.plain_world.PlainWorld.outside.Given as goal

abbrev pub invariant-loop-fiber : goal.invariant-loop-fiber
invariant-loop-fiber l = l.numbers.items ≡ filter (λ f. slice_index_or l.self.from_outside f false) (range_with_len 0 l.fiber)
