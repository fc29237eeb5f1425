use Rattle.std.proofs.Common.{◌≡◌, ℕ, ◌<◌, get_or}
use Rattle.fx_term.specs.declared.stamped.Stamped.{Stamped}
use Rattle.fx_follow.proofs.one_fiber.are_same_events.Given as goal

abbrev pub invariant-loop-at : goal.invariant-loop-at
invariant-loop-at l = (k : ℕ) → k < l.at → (d : Stamped) → (get_or l.one k d).event ≡ (get_or l.other k d).event
