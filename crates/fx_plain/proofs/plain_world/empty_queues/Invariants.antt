use Rattle.std.proofs.Common.{◌≡◌, map, take}
use Rattle.fx_plain.specs.PlainQueue.{empty_queue}
use Rattle.fx_plain.proofs.plain_world.empty_queues.Given as goal

abbrev pub invariant-loop-queue : goal.invariant-loop-queue
invariant-loop-queue l = l.queues.items ≡ map (λ q. empty_queue q.cap) (take l.queue-index l.declared)
