use Rattle.std.proofs.Common.{◌∙◌, sym}
use Rattle.fx_plain.proofs.PlainMachineWay.{tried_pick, skipped_pick}
use Rattle.fx_plain.proofs.plain_machine.PlainMachine.take_step.Goals as goal

pub returns-in_ok-go : goal.returns-in_ok-go
returns-in_ok-go g c = record {
  takes = λ s m so.
      rw c.waiting.ensures (tried_pick g.J.CodeBrand.nodes s c.args.fiber c.args.self.now c.go.new.self m (c.in_ok-go.ensures.tries s m so));
}

pub returns-else-is_ready : goal.returns-else-is_ready
returns-else-is_ready g c = record {
  takes = λ s m so.
      rw c.why.ensures
      (skipped_pick g.J.CodeBrand.nodes s c.args.fiber c.args.self.now m (sym c.is_ready.ensures ∙ c.if-is_ready.false) so);
}
