use Rattle.std.proofs.Common.{◌/◌, ◌%◌, arith}
use Rattle.fx_plain.proofs.Marks.{insert_marks}
use Rattle.fx_plain.proofs.Members.{inserts}
use Rattle.fx_plain.proofs.number_set.NumberSet.insert.Goals as goal

pub invariant_of-self : goal.invariant_of-self
invariant_of-self c =
    let n = c.args.n in
    let small = c.requires in
    insert_marks c.self.inside.words c.self.inside.marks (n / 64) c.self.told (omega arith) c.self.invariant (n % 64) (omega arith)

pub returns : goal.returns
returns c = rw (← c.self.view_is) (inserts c.self.inside.words c.args.n c.self.told c.requires)
