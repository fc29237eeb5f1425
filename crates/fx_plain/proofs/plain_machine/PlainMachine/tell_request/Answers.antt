use Rattle.fx_text.specs.declared.pick.Pick.TheVariants as pick
use Rattle.fx_plain.proofs.ToldSteps.{taken_request, taken_passed}
use Rattle.fx_plain.proofs.plain_machine.PlainMachine.tell_request.Goals as goal

pub returns-in-Some : goal.returns-in-Some
returns-in-Some g c = λ s m so.
    taken_passed g.J.CodeBrand.nodes s c.take_request.new.self m c.args.place (pick.Cancel c.args.fiber) c.in-Some.why (c.in-Some.ensures.takes s m so)

pub returns-in-None : goal.returns-in-None
returns-in-None g c = λ s m so.
    taken_request g.J.CodeBrand.nodes s c.take_request.new.self m c.args.place c.args.fiber (c.in-None.ensures.takes s m so)
