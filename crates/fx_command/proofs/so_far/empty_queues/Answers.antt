use Rattle.fx_command.proofs.HeldPuts.{one_more_queue}
use Rattle.fx_command.proofs.so_far.empty_queues.Goals as goal

pub loop-queue-preserved : goal.loop-queue-preserved
loop-queue-preserved c = one_more_queue _ _ _ c.loop-queue._queue c.loop-queue.invariant c.new.ensures c.in_ok-push.ensures.items
