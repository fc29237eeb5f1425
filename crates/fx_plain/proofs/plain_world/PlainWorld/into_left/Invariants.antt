use Rattle.std.proofs.Common.{◌≡◌, ◌++◌, map}
use Rattle.fx_plain.proofs.plain_world.PlainWorld.into_left.Given as goal

abbrev pub invariant-loop-queue : goal.invariant-loop-queue
invariant-loop-queue l =
    map (λ items. items.items) l.left.items ++ map (λ q. q.items) l.queue-iterator.rest.items ≡ map (λ q. q.items) l.fn.self.queues
