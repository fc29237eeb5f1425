use Rattle.std.proofs.Common.{arith}
use Rattle.fx_port.proofs.MarkLaws.{long_none}
use Rattle.fx_port.proofs.noted.Noted.as_new.Goals as goal

pub returns : goal.returns
returns g c =
    let few = c.self.invariant.0 in
    let is = c.numbers.ensures in
    long_none g.N.RunBrand.words.fibers _ c.in_ok-row.row c.in_ok-row.ensures (omega (arith, is, few))
