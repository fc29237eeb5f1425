use Rattle.std.proofs.Common.{◌∙◌, sym, ap}
use Rattle.std.specs.Prelude.{is_some}
use Rattle.fx_plain.proofs.ToldSteps.{tried_and_waits, tried_and_steps}
use Rattle.fx_plain.proofs.plain_machine.PlainMachine.try_and_tell.Goals as goal

pub returns-then-is_some : goal.returns-then-is_some
returns-then-is_some g c = λ s m so.
    tried_and_waits g.J.CodeBrand.nodes s c.args.self.now c.go.new.self m c.args.fiber so (c.in_ok-go.ensures.tries s m so)
    (ap is_some (sym c.waiting.ensures) ∙ sym c.is_some.ensures ∙ c.if-is_some.true)

pub returns : goal.returns
returns g c = λ s m so.
    tried_and_steps g.J.CodeBrand.nodes s c.args.self.now c.go.new.self m c.args.fiber so c.before_step-before.result c.told.result
    c.before_step-before.ensures c.told.ensures (c.in_ok-go.ensures.tries s m so)
    (ap is_some (sym c.waiting.ensures) ∙ sym c.is_some.ensures ∙ c.if-is_some.false)
