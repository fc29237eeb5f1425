use Rattle.std.proofs.Common.{◌∙◌, ◌+◌, ℕ, sym, ap}
use Rattle.fx_queue.proofs.Counts.{put_count}
use Rattle.fx_bench.proofs.queues.put.Goals as goal

pub putting-preserved-in-Ok : goal.putting-preserved-in-Ok
putting-preserved-in-Ok g c =
    let inv = c.putting.invariant in
    let same = c.offer_as.ensures.same in
    record {
      of = (same.table ∙ inv.of.0, same.cap ∙ inv.of.1);
      id = inv.id ∙ sym same.id;
      count =
          c.in-Some-checked_add.ensures.1 ∙ (ap (λ (k : ℕ). k + 1) inv.count
          ∙ sym (put_count c.putting.pass.view _ _ c.offer_as.new.pass.view c.in-Ok.ensures.rule));
    }
