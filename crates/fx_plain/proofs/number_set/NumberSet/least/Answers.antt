use Rattle.std.proofs.Common.{arith}
use Rattle.fx_plain.proofs.LeastMember.{first_is_least}
use Rattle.fx_plain.proofs.number_set.NumberSet.least.Goals as goal

pub returns : goal.returns
returns c =
    rw (← c.self.view_is)
    (first_is_least c.self.inside.words c.self.inside.marks c.self.invariant (omega arith) (omega arith) (omega arith))
