use Rattle.fx_fiber.specs.LeafBelow.{IsDownTo}
use Rattle.fx_fiber.proofs.machine.Machine.leaf_below.Given as goal

abbrev pub invariant-contexts : goal.invariant-contexts
invariant-contexts g l = IsDownTo g.nodes l.self l.id l.is_open

-- a part comes before its form
abbrev pub decreases-contexts : goal.decreases-contexts
decreases-contexts g l = l.id.0
