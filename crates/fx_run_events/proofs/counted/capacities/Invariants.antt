use Rattle.std.proofs.Common.{◌≡◌, map, take}
use Rattle.fx_text.specs.declared.queue_decl.QueueDecl.{QueueDecl}
use Rattle.fx_run_events.proofs.counted.capacities.Given as goal

abbrev pub invariant-loop-queue : goal.invariant-loop-queue
invariant-loop-queue l = l.caps.items ≡ map (λ (q : QueueDecl). q.cap) (take l.queue-index l.queues)
