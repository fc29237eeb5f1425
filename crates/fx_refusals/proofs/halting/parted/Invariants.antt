use Rattle.fx_refusals.proofs.PartedLaws.{AreParted}
use Rattle.fx_refusals.proofs.halting.parted.Given as goal

abbrev pub invariant-loop-fiber : goal.invariant-loop-fiber
invariant-loop-fiber g l = AreParted l.fn.code.nodes l.fn.total l.next l.bares.items
