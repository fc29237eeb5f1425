use Rattle.fx_counts.proofs.SoFar.{rest_same}
use Rattle.fx_counts.proofs.queue_so_far.QueueSoFar.holds.Goals as goal

pub returns-then-rest-left : goal.returns-then-rest-left
returns-then-rest-left c s is =
    rest_same c.args.self.now s c.deref.result.now c.args.left.now c.are_same.result is c.deref.ensures.value c.if-rest-left.true c.are_same.ensures
