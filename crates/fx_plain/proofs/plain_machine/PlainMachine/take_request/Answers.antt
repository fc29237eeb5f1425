use Rattle.std.proofs.Common.{arith}
use Rattle.fx_plain.proofs.PlainMachineWay.{requested_pick, skipped_request}
use Rattle.fx_plain.proofs.plain_machine.PlainMachine.take_request.Goals as goal

pub returns-then-fiber-total : goal.returns-then-fiber-total
returns-then-fiber-total g c = record {
  takes = λ s m so.
      requested_pick g.J.CodeBrand.nodes s c.args.self.now c.args.fiber c.request_from_outside.new.self c.request_from_outside.ensures m so
      (let long = c.total.ensures in let below = c.if-fiber-total.true in omega arith);
}

pub returns-else-fiber-total : goal.returns-else-fiber-total
returns-else-fiber-total g c = record {
  takes = λ s m so.
      skipped_request g.J.CodeBrand.nodes s c.args.self.now c.args.fiber c.request_from_outside.new.self c.request_from_outside.ensures m so
      (let long = c.total.ensures in let past = c.if-fiber-total.false in omega arith);
}
