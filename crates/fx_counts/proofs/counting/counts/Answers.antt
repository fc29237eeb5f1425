use Rattle.std.proofs.Common.{arith, ◌≡◌, ◌+◌, ◌∙◌, ap, subst, sym, length, List, Option, Vec, Global}
use Rattle.std.specs.Prelude.{option_map, slice_get}
use Rattle.std.proofs.lemmas.List.{with_items_is}
use Rattle.fx_term.specs.Queue.{queue_event}
use Rattle.fx_counts.specs.declared.at_queue.AtQueue.{AtQueue}
use Rattle.fx_counts.specs.SoFar.{told_then}
use Rattle.fx_counts.proofs.Counted.{AreCountedBelow, counts_queue, counts_no_queue, counts_all, replay_is}
use Rattle.fx_counts.proofs.counting.counts.Goals as goal
use Rattle.fx_counts.proofs.counting.counts.Goals.{in-Some, in_default}

abbrev items_in : Option (Vec AtQueue Global) → Option (List AtQueue)
items_in o = option_map (λ (it : Vec AtQueue Global). it.items) o

pub loop-queue-preserved : goal.loop-queue-preserved
loop-queue-preserved c = elim c.match-branch-3.branch [
  | in-Some w ↦ (
      let written = w.write_counts.new.counts in
      let is : c.match-branch-3.counts.items ≡ written =
      ap (λ (v : Vec (Option AtQueue) Global). v.items) w.counts-is
      ∙ with_items_is c.loop-queue.counts written (w.write_counts.auto.counts ∙ w.deref_mut.ensures.len) in
      let replay = replay_is _ c.loop-queue.queue c.args.list.now _ _ _ _ c.left_of.ensures (ap items_in w.in-Some.is) c.in_ok-told.ensures in
      let long : length written ≡ length c.loop-queue.counts.items = w.write_counts.auto.counts ∙ ap length w.deref_mut.ensures.value in
      subst (AreCountedBelow c.args.capacities.now c.args.report.now c.args.list.now (c.loop-queue.queue + 1)) (sym is)
      (counts_queue c.args.capacities.now c.args.report.now c.args.list.now c.loop-queue.queue (c.loop-queue.queue + 1) c.loop-queue.counts.items written
      w.in-Some.told.items c.loop-queue.invariant replay long
      (λ k x at.
      w.write_counts.ensures k x at
      ∙ ap (λ (l : List AtQueue). told_then (queue_event c.loop-queue.queue x.fiber x.event) (slice_get l k) (slice_get w.deref_mut.result.now k))
      w.deref.ensures.value
      ∙ ap (λ (l : List (Option AtQueue)). told_then (queue_event c.loop-queue.queue x.fiber x.event) (slice_get w.in-Some.told.items k) (slice_get l k))
      w.deref_mut.ensures.value)
      (omega arith))
      )
  | in_default w ↦ (
      let replay = replay_is _ c.loop-queue.queue c.args.list.now _ _ _ _ c.left_of.ensures (ap items_in w.in_default.is) c.in_ok-told.ensures in
      subst (λ (v : Vec (Option AtQueue) Global). AreCountedBelow c.args.capacities.now c.args.report.now c.args.list.now (c.loop-queue.queue + 1) v.items)
      (sym w.counts-is)
      (counts_no_queue c.args.capacities.now c.args.report.now c.args.list.now c.loop-queue.queue (c.loop-queue.queue + 1) c.loop-queue.counts.items
      c.loop-queue.invariant replay (omega arith))
      )
]

pub returns : goal.returns
returns c = counts_all c.args.capacities.now c.args.report.now c.args.list.now _ _ c.loop-queue.invariant (omega arith)
