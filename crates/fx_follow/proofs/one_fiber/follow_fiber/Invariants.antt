use Rattle.std.proofs.Common.{◌≡◌}
use Rattle.fx_follow.proofs.one_fiber.follow_fiber.Given as goal

abbrev pub invariant-loop-tried : goal.invariant-loop-tried
invariant-loop-tried g l = l.answers.outcomes ≡ l.fn.answers.outcomes
