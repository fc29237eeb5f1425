use Rattle.std.proofs.Common.{◌∙◌, arith}
use Rattle.std.proofs.lemmas.List.{length-set}
use Rattle.fx_port.proofs.Lefts.{fewer, fewer_queues, here, is_of, before, front_of, each_more}
use Rattle.fx_port.proofs.close.close_row.Goals as goal

pub close_one-requires-clause-queue : goal.close_one-requires-clause-queue
close_one-requires-clause-queue g c =
    let inv = c.closing.invariant in
    is_of _ _ c.in-Some-Some.queue c.in-Some-Some.ensures.items _ _ c.in-Some-Some.pass c.in-Some-Some.ensures'.items inv.long inv.own

pub close_one-requires-clause-whole : goal.close_one-requires-clause-whole
close_one-requires-clause-whole g c =
    let inv = c.closing.invariant in
    c.requires.whole _ c.in-Some-Some.pass
    (inv.same _ c.in-Some-Some.pass (here _ _ c.in-Some-Some.queue c.in-Some-Some.ensures.items _ _ c.in-Some-Some.pass c.in-Some-Some.ensures'.items inv.long))

pub closing-preserved : goal.closing-preserved
closing-preserved g c =
    let inv = c.closing.invariant in
    let iq = c.in-Some-Some.ensures.items in
    let is = c.in-Some-Some.ensures'.items in
    let queue = c.in-Some-Some.queue in
    let pass = c.in-Some-Some.pass in
    let less = fewer _ _ queue iq _ _ pass is inv.long in
    let count = inv.count in
    record {
      own = front_of _ _ queue iq _ _ pass is inv.long inv.own;
      same = λ q s e. inv.same q s (before _ _ queue iq _ _ pass is inv.long q s e);
      long = fewer_queues _ _ queue iq _ _ pass is inv.long;
      as_many = length-set _ _ _ ∙ inv.as_many;
      count = omega (arith, less, count);
      each = each_more _ _ queue iq _ _ pass is inv.long (λ v. v.items) _ _ _ _ (c.len-in-closing.ensures ∙ c.pop-in-closing.new.self.ok.0) inv.same inv.each
          c.in_ok-left-2.ensures;
    }
