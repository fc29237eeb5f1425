use Rattle.fx_fiber.proofs.LeavesBelow.{joined_within, joined_fits, either_within, either_fits}
use Rattle.fx_fiber.proofs.machine.Machine.source_at.Goals as goal

pub fiber_of-requires-clause-bound : goal.fiber_of-requires-clause-bound
fiber_of-requires-clause-bound g c = joined_within g.nodes c.args.self.now c.args.leaf c.requires.0 _ _ _ _ _ _ c.in-Join.is

pub fiber_of-requires-clause-fits : goal.fiber_of-requires-clause-fits
fiber_of-requires-clause-fits g c = joined_fits g.nodes c.args.self.now c.args.leaf c.requires.0 c.requires.1 _ _ _ _ _ _ c.in-Join.is

pub fiber_of-left-requires-clause-bound : goal.fiber_of-left-requires-clause-bound
fiber_of-left-requires-clause-bound g c = (either_within g.nodes c.args.self.now c.args.leaf c.requires.0 _ _ c.in-First.is).0

pub fiber_of-left-requires-clause-fits : goal.fiber_of-left-requires-clause-fits
fiber_of-left-requires-clause-fits g c = (either_fits g.nodes c.args.self.now c.args.leaf c.requires.0 c.requires.1 _ _ c.in-First.is).0

pub fiber_of-right-requires-clause-bound : goal.fiber_of-right-requires-clause-bound
fiber_of-right-requires-clause-bound g c = (either_within g.nodes c.args.self.now c.args.leaf c.requires.0 _ _ c.in-First.is).1

pub fiber_of-right-requires-clause-fits : goal.fiber_of-right-requires-clause-fits
fiber_of-right-requires-clause-fits g c = (either_fits g.nodes c.args.self.now c.args.leaf c.requires.0 c.requires.1 _ _ c.in-First.is).1
