use Rattle.fx_port.specs.Marks.{KeepsMarks}
use Rattle.fx_port.proofs.sources.Sources.wake.Given as goal

abbrev pub invariant-loop : goal.invariant-loop
invariant-loop g l = KeepsMarks l.fn.notes l.notes
