use Rattle.std.proofs.Common.{arith}
use Rattle.fx_follow.proofs.SameEvents.{same_events}
use Rattle.fx_follow.proofs.one_fiber.are_same_events.Goals as goal

pub returns : goal.returns
returns c = same_events c.args.one.now c.args.other.now c.if-one-other.false (λ k d lt. c.loop-at.invariant k (omega arith) d)
