use Rattle.std.proofs.Common.{length}
use Rattle.fx_text.proofs.ResourceLaws.{NestsLast}
use Rattle.fx_text.proofs.reader.Reader.nested.Given as goal

abbrev pub invariant-loop-r : goal.invariant-loop-r
invariant-loop-r l = NestsLast l.fn.self l.self l.fn.resources.items l.fn.used.0 l.resources.items l.root.0

abbrev pub decreases-loop-r : goal.decreases-loop-r
decreases-loop-r l = length l.resources.items
