use Rattle.std.proofs.Common.{◌≡◌, take}
use Rattle.std.specs.List.{flat_map}
use Rattle.fx_order.specs.Occurrences.{occurrences_of}
use Rattle.fx_order.proofs.order.gather.Given as goal

abbrev pub invariant-loop-fiber : goal.invariant-loop-fiber
invariant-loop-fiber l = l.list.items ≡ flat_map occurrences_of (take l.fiber-index l.fibers)
