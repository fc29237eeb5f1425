use Rattle.fx_text.specs.declared.pick.Pick.TheVariants as pick
use Rattle.fx_plain.proofs.ToldSteps.{taken_and_steps, taken_passed}
use Rattle.fx_plain.proofs.plain_machine.PlainMachine.tell_step.Goals as goal

pub returns-in-Some : goal.returns-in-Some
returns-in-Some g c = λ s m so.
    taken_passed g.J.CodeBrand.nodes s c.take_step.new.self m c.args.place (pick.Step c.args.fiber) c.in-Some.why
    (rw c.in-Some.is at (c.in_ok-why.ensures.takes s m so))

pub returns-in-None : goal.returns-in-None
returns-in-None g c = λ s m so.
    taken_and_steps g.J.CodeBrand.nodes s c.args.self.now c.take_step.new.self m c.args.fiber so c.args.place c.before_step-before.result c.told.result
    c.before_step-before.ensures c.told.ensures (rw c.in-None.is at (c.in_ok-why.ensures.takes s m so))
