use Rattle.std.proofs.Common.{◌∙◌, ◌+◌, ℕ, sym, ap}
use Rattle.fx_term.specs.Queue.{puts}
use Rattle.fx_queue.specs.Queues.{HeldPass}
use Rattle.fx_queue.proofs.Counts.{put_count}
use Rattle.fx_bench.proofs.Takes.{take_puts_nothing}
use Rattle.fx_bench.proofs.queues.exchange_alone.Goals.{in-Ok+in-Some, in-Err}
use Rattle.fx_bench.proofs.queues.exchange_alone.Goals as goal

pub exchanging-preserved : goal.exchanging-preserved
exchanging-preserved g c =
    let inv = c.exchanging.invariant in
    let same = c.offer_as.ensures.same in
    let then = c.take_as.ensures.same in
    let kept = take_puts_nothing c.offer_as.new.pass c.take_as.new.pass _ c.take_as.result c.take_as.ensures.rule in
    record {
      of = (then.table ∙ (same.table ∙ inv.of.0), then.cap ∙ (same.cap ∙ inv.of.1));
      id = inv.id ∙ (sym same.id ∙ sym then.id);
      count = elim c.match-offer_as.branch [
        | in-Ok+in-Some w ↦ w.nth-is ∙ (w.in-Some.ensures.1 ∙ (ap (λ (k : ℕ). k + 1) inv.count
            ∙ (sym (put_count c.exchanging.pass.view _ _ c.offer_as.new.pass.view w.in-Ok.ensures.rule) ∙ sym kept)))
        | in-Err w ↦ w.nth-is ∙ (inv.count ∙ (ap (λ (p : HeldPass). puts p.view.own.acts) (sym w.in-Err.ensures.rule.1) ∙ sym kept))
      ];
    }
