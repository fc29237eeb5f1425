use Rattle.std.proofs.lemmas.Result.{IfOk-weaker}
use Rattle.fx_term.specs.Script.{ScriptView}
use Rattle.fx_plain.specs.WholeMachine.{WholeMachine}
use Rattle.fx_plain.specs.PlainMachine.{StandsForRun, Tries}
use Rattle.fx_plain.proofs.PlainMachineWaking.{woken, some_woken, woken_able, woken_stands, tried_woken}
use Rattle.fx_plain.proofs.plain_machine.PlainMachine.try_step.Goals as goal

pub step_able-requires-clause-able : goal.step_able-requires-clause-able
step_able-requires-clause-able g c = woken_able g.J.CodeBrand.nodes c.args.self.now c.args.id c.wake.new.self c.wake.ensures c.requires.ready c.requires.stands

pub step_able-requires-clause-stands : goal.step_able-requires-clause-stands
step_able-requires-clause-stands g c =
    some_woken g.J.CodeBrand.nodes c.args.self.now c.args.id c.wake.new.self c.wake.ensures c.requires.ready c.requires.stands

pub returns : goal.returns
returns g c =
    let nodes = g.J.CodeBrand.nodes in
    let p = c.args.self.now in
    let f = c.args.id in
    let world = c.wake.new.self in
    let p' = c.step_able.new.self in
    let is = c.wake.ensures in
    let ready = c.requires.ready in
    record {
      tries = IfOk-weaker c.step_able.result
          (λ _. (s : ScriptView) (m : WholeMachine) → StandsForRun nodes s (woken nodes p f world is ready) m
          → Tries nodes s m f (woken nodes p f world is ready) p')
          (λ _. (s : ScriptView) (m : WholeMachine) → StandsForRun nodes s p m → Tries nodes s m f p p')
          (λ _ tries. λ s m so. tried_woken nodes p f world is ready s m so p' (tries s m (woken_stands nodes p f world is ready s m so)))
          c.step_able.ensures.tries;
    }
