use Rattle.std.proofs.Common.{◌≡◌, map, take}
use Rattle.fx_queue.specs.Queues.{QueueId}
use Rattle.fx_port.specs.Rows.{AreFirst}
use Rattle.fx_port.proofs.open.open_queues.Given as goal

abbrev pub invariant-loop-capacity : goal.invariant-loop-capacity
invariant-loop-capacity l = record {
  capacities : map (λ (i : QueueId). i.cap) l.queues.items ≡ take l.capacity-index l.capacities;
  first : AreFirst l.fibers l.queues.items l.row.items;
}
