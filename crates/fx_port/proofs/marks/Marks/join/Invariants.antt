use Rattle.std.proofs.Common.{◌≡◌, take}
use Rattle.fx_port.specs.Marks.{joined_marks}
use Rattle.fx_port.proofs.marks.Marks.join.Given as goal

abbrev pub invariant-loop-id : goal.invariant-loop-id
invariant-loop-id g l = l.self ≡ joined_marks l.fn.self (take l.id l.fn.other)
