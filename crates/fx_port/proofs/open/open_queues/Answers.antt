use Rattle.std.proofs.Common.{◌∙◌, ℕ, sym, ap}
use Rattle.fx_queue.specs.PassView.{first_view}
use Rattle.fx_queue.specs.Queues.{HeldPass}
use Rattle.fx_port.proofs.FirstLaws.{one_more, next_capacity}
use Rattle.fx_port.proofs.open.open_queues.Goals as goal

pub loop-capacity-preserved : goal.loop-capacity-preserved
loop-capacity-preserved c =
    let inv = c.loop-capacity.invariant in
    let made = c.in_ok-queue.ensures in
    let same = c.new-in-loop-capacity.ensures in
    let queues = c.in_ok-push.ensures.items in
    let passes = c.in_ok-push-2.ensures.items in
    record {
      capacities = rw queues (next_capacity _ _ _ c.in_ok-queue.queue c.loop-capacity-test.true made.0 inv.capacities);
      first = rw (queues, passes) (one_more c.args.fibers c.loop-capacity.queues.items c.loop-capacity.row.items c.in_ok-queue.queue
          c.new-in-loop-capacity.result inv.first made.1
          (ap (λ (s : HeldPass). s.table) same ∙ made.2.0)
          (ap (λ (s : HeldPass). s.view) same ∙ (made.3 ∙ ap (λ (n : ℕ). first_view n c.args.fibers) (sym made.0))));
    }
