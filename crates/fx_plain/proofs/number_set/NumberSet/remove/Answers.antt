use Rattle.std.proofs.Common.{◌/◌, ◌%◌, arith}
use Rattle.fx_plain.proofs.Marks.{remove_marks_last}
use Rattle.fx_plain.proofs.Members.{removes}
use Rattle.fx_plain.proofs.number_set.NumberSet.remove.Goals as goal

pub invariant_of-self : goal.invariant_of-self
invariant_of-self c =
    let n = c.args.n in
    let small = c.requires in
    let zero = c.if-rest-eq0.true in
    remove_marks_last c.self.inside.words c.self.inside.marks (n / 64) c.self.told (omega arith) c.self.invariant (n % 64) (omega arith) zero

pub returns-then-rest-eq0 : goal.returns-then-rest-eq0
returns-then-rest-eq0 c = rw (← c.self.view_is) (removes c.self.inside.words c.args.n c.self.told c.requires)

pub returns-else-rest-eq0 : goal.returns-else-rest-eq0
returns-else-rest-eq0 c = rw (← c.self.view_is) (removes c.self.inside.words c.args.n c.self.told c.requires)
