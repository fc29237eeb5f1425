use Rattle.std.proofs.Common.{◌≡◌, ℕ, ◌+◌, ◌<◌}
use Rattle.std.specs.Vec.{vec_len, vec_capacity}
use Rattle.fx_fiber.specs.Bursts.{HasLooked, LeadsTo}
use Rattle.fx_fiber.proofs.fiber.rules.rules.Given as goal

-- so many steps were made that these are left, and nothing else has changed
abbrev pub invariant-loop-left : goal.invariant-loop-left
invariant-loop-left g l = record {
  to : (n : ℕ) × (n + l.left ≡ l.fn.most) × LeadsTo g.P.Port.theory g.outset n l.body.machine l.body.trace.items l.body.clock;
  looked : HasLooked g.P.Port.theory.calls l.fn.looked l.body.machine.known g.outset.port g.outset.shared;
  room : 0 < l.left → vec_len l.body.trace < vec_capacity l.body.trace;
  id : l.body.id ≡ l.fn.body.id;
  source : l.body.source ≡ l.fn.body.source;
}

abbrev pub decreases-loop-left : goal.decreases-loop-left
decreases-loop-left g l = l.left

abbrev pub ghost-bracket_rule : goal.ghost-bracket_rule
ghost-bracket_rule g a = g.outset

abbrev pub ghost-glide : goal.ghost-glide
ghost-glide g a = g.outset
