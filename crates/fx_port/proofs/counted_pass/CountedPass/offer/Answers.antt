use Rattle.fx_port.proofs.CountLaws.{count_more}
use Rattle.fx_port.proofs.counted_pass.CountedPass.offer.Goals as goal

pub invariant_of-self : goal.invariant_of-self
invariant_of-self g c = count_more c.self.inside.pass c.offer_as.new.pass c.args.value _ _ c.in-Ok.ensures.rule c.self.invariant
