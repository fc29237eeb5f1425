use Rattle.std.proofs.Common.{arith}
use Rattle.fx_fiber.proofs.Starts.{started_node, sound_begin, start_reaches}
use Rattle.fx_fiber.proofs.fiber.child.child_of.Goals as goal

pub need-requires : goal.need-requires
need-requires g c = rw c.requires.0 (started_node g.nodes c.args.machine.now _ _ _ _ c.requires.1.0.2).number

pub overflow_add-begin : goal.overflow_add-begin
overflow_add-begin g c = let n = rw c.requires.0 at c.need.ensures.need in omega arith

pub beginning-requires : goal.beginning-requires
beginning-requires g c = sound_begin g.nodes c.args.machine.now _ _ _ _ c.requires.1.0.2 _ _ _ _ c.in_ok-copied.ensures

pub bind-requires : goal.bind-requires
bind-requires g c = start_reaches g.nodes c.args.machine.now _ _ _ _ c.requires.1.0.2
