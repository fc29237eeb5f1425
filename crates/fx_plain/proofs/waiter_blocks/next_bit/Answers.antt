use Rattle.std.proofs.Common.{arith}
use Rattle.fx_plain.proofs.LeastFrom.{none_past, none_left, first_left, first_within}
use Rattle.fx_plain.proofs.waiter_blocks.next_bit.Goals as goal

pub returns-then-from-ge-BITS-clause-next : goal.returns-then-from-ge-BITS-clause-next
returns-then-from-ge-BITS-clause-next c = none_past c.args.word c.args.from (omega arith) c.if-from-ge-BITS.true

pub returns-then-rest-eq0-clause-next : goal.returns-then-rest-eq0-clause-next
returns-then-rest-eq0-clause-next c = none_left c.args.word c.args.from (omega arith) c.if-rest-eq0.true

pub returns : goal.returns
returns c = record {
  next = first_left c.args.word c.args.from (omega arith) c.if-rest-eq0.false;
  few = first_within c.args.word c.args.from (omega arith) c.if-rest-eq0.false;
}
