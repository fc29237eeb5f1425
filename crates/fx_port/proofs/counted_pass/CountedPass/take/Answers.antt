use Rattle.std.proofs.Common.{◌∙◌}
use Rattle.fx_port.proofs.CountLaws.{count_kept}
use Rattle.fx_port.proofs.counted_pass.CountedPass.take.Goals as goal

pub invariant_of-self : goal.invariant_of-self
invariant_of-self g c = c.self.invariant ∙ count_kept c.take_as.result c.self.inside.pass c.take_as.new.pass c.take_as.ensures.rule
