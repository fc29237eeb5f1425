use Rattle.std.proofs.Common.{arith}
use Rattle.fx_plain.proofs.LeastFrom.{in_word, in_word_few, none_later, next_within, in_next, in_next_few}
use Rattle.fx_plain.proofs.number_set.NumberSet.least_from.Goals as goal

pub returns-then-rest-ne0 : goal.returns-then-rest-ne0
returns-then-rest-ne0 c =
    let ws = c.self.inside.words in
    let is = c.in-Some.ensures.lookup.3.1 0 in
    rw (← c.self.view_is)
    (record {
      next = in_word ws c.self.told c.args.from c.in-Some.word.now is (omega arith) c.if-rest-ne0.true;
      few = in_word_few ws c.self.told c.args.from c.in-Some.word.now is (omega arith) c.if-rest-ne0.true;
    })

pub returns-then-later-eq0-clause-next : goal.returns-then-later-eq0-clause-next
returns-then-later-eq0-clause-next c =
    rw (← c.self.view_is)
    (none_later c.self.inside.words c.self.told c.args.from c.in-Some.word.now (c.in-Some.ensures.lookup.3.1 0) c.self.inside.marks c.self.invariant
    c.if-rest-ne0.false c.if-later-eq0.true)

pub bounds-self-inside-next : goal.bounds-self-inside-next
bounds-self-inside-next c =
    next_within c.self.inside.words c.self.told c.args.from c.in-Some.word.now (c.in-Some.ensures.lookup.3.1 0) c.self.inside.marks c.self.invariant
    c.if-rest-ne0.false (omega arith) c.if-later-eq0.false

pub returns : goal.returns
returns c =
    let ws = c.self.inside.words in
    let is = c.in-Some.ensures.lookup.3.1 0 in
    let marks = c.self.inside.marks in
    rw (← c.self.view_is)
    (record {
      next =
          in_next ws c.self.told c.args.from c.in-Some.word.now is marks c.self.invariant c.if-rest-ne0.false (omega arith) c.if-later-eq0.false (omega arith);
      few =
          in_next_few ws c.self.told c.args.from c.in-Some.word.now is marks c.self.invariant c.if-rest-ne0.false (omega arith) c.if-later-eq0.false
          (omega arith);
    })
