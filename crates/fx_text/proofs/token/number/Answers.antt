use Rattle.std.proofs.Common.{sym, arith}
use Rattle.fx_text.proofs.NumberLaws.{too_large_at, is_number_at}
use Rattle.fx_text.proofs.token.number.Goals as goal

pub returns-in-None : goal.returns-in-None
returns-in-None c = sym (too_large_at c.args.word.now c.loop-b.b-index c.loop-b.value c.loop-b-test.true c.loop-b.invariant.0 (let no = c.in-None.ensures in
    omega arith))

pub returns-in-None-checked_add : goal.returns-in-None-checked_add
returns-in-None-checked_add c = sym (too_large_at c.args.word.now c.loop-b.b-index c.loop-b.value c.loop-b-test.true c.loop-b.invariant.0 (let no =
    c.in-None-checked_add.ensures in let some = c.in-Some.ensures in let d = c.from.ensures in omega arith))

pub returns : goal.returns
returns c = sym (is_number_at c.args.word.now c.loop-b.b-index c.loop-b.value c.loop-b-test.false c.loop-b.invariant.0 c.loop-b.invariant.1)
