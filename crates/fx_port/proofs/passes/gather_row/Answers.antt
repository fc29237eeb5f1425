use Rattle.std.proofs.Common.{◌≡◌, ◌∙◌, ◌≤◌, ◌++◌, ◌∷◌, [], sym, arith, length}
use Rattle.std.proofs.lemmas.List.{length-set}
use Rattle.fx_port.proofs.Gathers.{joined_end, front_row, set_row, one_less, step_there, step_rest, nil_of}
use Rattle.fx_port.proofs.passes.gather_row.Goals as goal

pub gathering-preserved : goal.gathering-preserved
gathering-preserved c =
    let inv = c.gathering.invariant in
    let is : c.gathering.others.items ≡ c.pop.new.self.items ++ c.in-Some.other ∷ [] = c.in-Some.ensures.items in
    let place : c.len-place.result ≡ length c.pop.new.self.items = c.len-place.ensures ∙ c.pop.new.self.ok.0 in
    let count = inv.count in
    let short : length c.gathering.others.items ≤ length c.args.queues.now = omega (arith, count) in
    let less = one_less c.args.queues.now c.gathering.row.items _ _ _ is in
    let at = step_there c.args.queues.now c.gathering.row.items _ _ _ is _ place _ inv.long short c.index_mut-pass.ensures.value in
    record {
      own = set_row _ _ _ _ _ c.in-Some.other inv.own at c.gather.ensures;
      theirs = front_row _ _ _ _ is inv.theirs;
      long = length-set _ _ _ ∙ inv.long;
      count = omega (arith, less, count);
      rest = step_rest c.args.queues.now c.gathering.row.items _ _ _ is _ place _ _ at c.gather.ensures ∙ inv.rest;
    }

pub returns : goal.returns
returns c =
    let inv = c.gathering.invariant in
    let count = inv.count in
    let end = c.gathering-test.false in
    sym (joined_end c.gathering.row.items c.gathering.others.items (nil_of _ (omega (arith, count, end)))) ∙ inv.rest
